-- How a step ends: the count is that of its subtractions, the end is the first that holds, and nothing behind it is looked at. Assumes nothing.
use Rattle.std.proofs.Common.{◌≡◌, refl, sym, ap, ◌∙◌, subst, Bool, true, false, not, inl, inr, List, [], ◌∷◌, ◌++◌, ℕ, suc, ◌+◌, eqb, length, take, Ok, Err, arith, Float}
use Rattle.grid.specs.Answers.{Answer}
use Rattle.numeric.specs.Bits.{◌⊖◌}
use Rattle.lengths.specs.Lengths.{OrRefused, ended, min_of, allowed, raised, ends, walk, step_check, unless_refused, step_lengths, taken, less, Ending}
use Rattle.lengths.specs.declared.End.{End}
use Rattle.lengths.specs.declared.End.TheVariants.{NoProposal}
use Rattle.lengths.specs.declared.Lengths.{Lengths}
use Rattle.lengths.proofs.Walking.{Over, Open, look, over_walk, over_taken, open_ends, open_none, open_broken, open_walk, open_taken}

module _ (one : Bool) (min max : Float) where
  abbrev next : Float → Float → Float
  next r p = r ⊖ raised r min p

  -- from k substeps on
  record From (k : ℕ) (r : Float) (ps : List Float) (e : End) (n : ℕ) (s : Float) : Type 0 where
    pub counted : n ≡ k + length (taken one min max k r ps)
    pub subtracted : s ≡ less r (taken one min max k r ps)
    pub first_end : ends one n s (ended NoProposal n s) ≡ ended e n s
    pub spent : e ≡ NoProposal → n ≡ k + length ps
    pub unlooked : (e ≡ NoProposal → ⊥) → (others : List Float) → walk one min max k r (take (length (taken one min max k r ps)) ps ++ others) ≡ ended e n s

  from_over : (k : ℕ) (r : Float) (o : Over one k r) (ps : List Float) → From k r ps o.end k r
  unfolding less
  from_over k r o ps =
      let t = over_taken one min max k r o ps in
      record {
        counted = rw t (omega arith);
        subtracted = rw t;
        first_end = o.ended (ended NoProposal k r);
        spent = λ e. absurd (o.found e);
        unlooked = λ ne others. rw t (over_walk one min max k r o others);
      }

  from_none : (k : ℕ) (r : Float) → Open one k r → From k r [] NoProposal k r
  unfolding less taken
  from_none k r o =
      record {
        counted = omega arith;
        subtracted = refl;
        first_end = open_ends one min max k r o (ended NoProposal k r);
        spent = λ e. omega arith;
        unlooked = λ ne others. absurd (ne refl);
      }

  from_next : (k : ℕ) (r : Float) → Open one k r → (p : Float) (ps : List Float) → allowed r max p ≡ true → (e : End) (n : ℕ) (s : Float)
      → From (suc k) (next r p) ps e n s → From k r (p ∷ ps) e n s
  unfolding less
  from_next k r o p ps a e n s f =
      let t = open_taken one min max k r o p ps a in
      record {
        counted = rw t (omega (arith, f.counted));
        subtracted = rw t f.subtracted;
        first_end = f.first_end;
        spent = λ x. omega (arith, f.spent x);
        unlooked = λ ne others. rw t (open_walk one min max k r o p (take (length (taken one min max (suc k) (next r p) ps)) ps ++ others) a ∙ f.unlooked ne others);
      }

  -- of an answer that is no refusal
  abbrev Of : ℕ → Float → List Float → OrRefused Lengths → Type 0
  Of k r ps (Ok l) = From k r ps l.end l.count l.remaining
  Of k r ps (Err e) = Unit {0}

  from : (k : ℕ) (r : Float) (ps : List Float) → Of k r ps (walk one min max k r ps)
  from k r [] = elim (look one k r) [
    | inl o ↦ subst (Of k r []) (sym (over_walk one min max k r o [])) (from_over k r o [])
    | inr o ↦ subst (Of k r []) (sym (open_none one min max k r o)) (from_none k r o)
  ]
  from k r (p ∷ ps) = elim (look one k r) [
    | inl o ↦ subst (Of k r (p ∷ ps)) (sym (over_walk one min max k r o (p ∷ ps))) (from_over k r o (p ∷ ps))
    | inr o ↦ go o (allowed r max p) refl (from (suc k) (next r p) ps)
  ]
    where
      step : Open one k r → allowed r max p ≡ true → (w : OrRefused Lengths) → Of (suc k) (next r p) ps w → Of k r (p ∷ ps) w
      step o a (Ok l) f = from_next k r o p ps a l.end l.count l.remaining f
      step o a (Err e) f = tt

      go : Open one k r → (b : Bool) → allowed r max p ≡ b → Of (suc k) (next r p) ps (walk one min max (suc k) (next r p) ps) → Of k r (p ∷ ps) (walk one min max k r (p ∷ ps))
      go o true a f = subst (Of k r (p ∷ ps)) (sym (open_walk one min max k r o p ps a)) (step o a (walk one min max (suc k) (next r p) ps) f)
      go o false a f = subst (Of k r (p ∷ ps)) (sym (open_broken one min max k r o p ps a)) tt

ending_of : (one : Bool) (min max total : Float) (proposals : List Float) (e : End) (n : ℕ) (remaining : Float)
    → walk one min max 0 total proposals ≡ ended e n remaining → Ending one min max total proposals e n remaining
ending_of one min max total proposals e n remaining h =
    let f : From one min max 0 total proposals e n remaining = subst (Of one min max 0 total proposals) h (from one min max 0 total proposals) in
    let c : n ≡ length (taken one min max 0 total proposals) = omega (arith, f.counted) in
    record {
      counted = c;
      subtracted = f.subtracted;
      first_end = f.first_end;
      spent = λ x. omega (arith, f.spent x);
      unlooked = λ ne others. ap (λ (j : ℕ). walk one min max 0 total (take j proposals ++ others)) c ∙ f.unlooked ne others;
    }

-- a step that ends is not refused
accepted : (a : Answer) (w : OrRefused Lengths) (e : End) (n : ℕ) (remaining : Float) → unless_refused a w ≡ ended e n remaining → w ≡ ended e n remaining
accepted (Ok u) w e n remaining h = h
accepted (Err x) w e n remaining h = let z : ◌≡◌ {A = ℕ} 0 1 = cc in absurd (omega arith)

pub ending : (total max : Float) (substeps stop count : ℕ) (proposals : List Float) (e : End) (n : ℕ) (remaining : Float)
    → step_lengths total max substeps stop count proposals ≡ ended e n remaining → Ending (not (eqb stop 0)) (min_of total substeps) max total proposals e n remaining
unfolding step_lengths
ending total max substeps stop count proposals e n remaining h =
    let walked = walk (not (eqb stop 0)) (min_of total substeps) max 0 total proposals in
    ending_of (not (eqb stop 0)) (min_of total substeps) max total proposals e n remaining (accepted (step_check total max substeps stop count (length proposals)) walked e n remaining h)
