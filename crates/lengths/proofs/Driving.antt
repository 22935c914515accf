-- A host's own loop of single substeps, with the least length that `min_dt` answers, answers what the step answers: on the way nothing is refused with 3, since every time
-- that remains is finite, and so is the least length. Assumes nothing.
use Rattle.std.proofs.Common.{◌≡◌, refl, sym, ap, ◌∙◌, subst, Bool, true, false, cond, ◌&&◌, not, inl, inr, List, [], ◌∷◌, ℕ, suc, ◌<◌, eqb, length, Ok, arith, Float, T}
use Rattle.std.proofs.Math.Nat.{pos_of_ne-zero}
use Rattle.std.proofs.lemmas.Bool.{eqb-false, ne_eqb}
use Rattle.std.specs.Float.{nan, inf, fin, binary32}
use Rattle.std.specs.Float.Ieee.{fits, lt, le}
use lib.Ieee.Fits.{sub-fits}
use lib.Ieee.Bits.{is_true}
use lib.Ieee.Positive.{positive, above, above_of_le, positive-finite}
use lib.Ieee.Scale as Scale
use Rattle.numeric.specs.Bits.{◌⊖◌, none}
use Rattle.grid.specs.Answers.{refused, done}
use Rattle.grid.specs.Table.{finite, called, codes, is_flag}
use Rattle.grid.specs.declared.Rule.TheVariants.{Code}
use Rattle.grid.proofs.Answers.{refuse_passed, not_false, not_true}
use Rattle.grid.proofs.Lengths.{and_split}
use Rattle.grid.proofs.Steps as Steps
use Rattle.lengths.specs.Lengths.{refused_by, ended, took, min_of, allowed, raised, walk, taken, step_check, step_lengths, min_check, min_dt, substep_check, substep, driven, driven_lengths, Driven}
use Rattle.lengths.proofs.Finite.{above_is, under, sub_finite, div_finite}
use Rattle.lengths.proofs.Walking.{Over, Open, look, over_walk, over_taken}

-- ---- finite

finite_is : (x : Float) → finite x ≡ Scale.finite x
unfolding finite
finite_is nan = refl
finite_is (inf s) = refl
finite_is (fin s m e) = refl

-- a test that passed, both ways
holds : (b : Bool) → b ≡ true → T b
holds b e = subst T (sym e) tt

finite_holds : (x : Float) → T (Scale.finite x) → finite x ≡ true
finite_holds x t = finite_is x ∙ is_true (Scale.finite x) t

finite_passed : (x : Float) → finite x ≡ true → T (Scale.finite x)
finite_passed x e = holds (Scale.finite x) (sym (finite_is x) ∙ e)

above_0 : (x : Float) → lt none x ≡ true → T (above x)
above_0 x e = holds (above x) (sym (above_is x) ∙ e)

both : (x : Float) → T (above x) → T (Scale.finite x) → T (positive x)
both nan a f = f
both (inf s) a f = absurd f
both (fin true m e) a f = a
both (fin false m e) a f = a

-- below is at most
below : (x y : Float) → lt x y ≡ true → T (le x y)
unfolding le
below x y e = rw e tt

-- ---- a length that is taken is above 0, and at most what remains

within : (r min max p : Float) → T (Scale.finite r) → allowed r max p ≡ true → T (positive (raised r min p)) × T (le (raised r min p) r)
unfolding allowed raised
within r min max p F a =
    let s = and_split (lt none p) (le p r && le p max) a in
    let l = holds (le p r) (and_split (le p r) (le p max) s.1).0 in
    go (lt p min && lt min r) refl l (under p r (above_0 p s.0) F l)
  where
    go : (b : Bool) → (lt p min && lt min r) ≡ b → T (le p r) → T (positive p) → T (positive (cond b min p)) × T (le (cond b min p) r)
    go false e l q = (q, l)
    go true e l q =
        let s = and_split (lt p min) (lt min r) e in
        let h = below min r s.1 in
        (under min r (above_of_le p min q (below p min s.0)) F h, h)

next_finite : (r min max p : Float) → T (fits binary32 r) → T (positive r) → allowed r max p ≡ true → T (Scale.finite (r ⊖ raised r min p))
next_finite r min max p F P a = let w = within r min max p (positive-finite r P) a in sub_finite r (raised r min p) F P w.0 w.1

-- ---- a substep on the way

module _ (r min max p : Float) (R : T (Scale.finite r)) (M : T (Scale.finite min)) (X : T (Scale.finite max)) where
  substep_taken : allowed r max p ≡ true → substep r min max p ≡ took (raised r min p) (r ⊖ raised r min p)
  unfolding substep substep_check
  substep_taken a = rw (finite_holds r R, finite_holds min M, finite_holds max X, a)

  substep_broken : allowed r max p ≡ false → substep r min max p ≡ refused_by Code 0
  unfolding substep substep_check
  substep_broken a = rw (finite_holds r R, finite_holds min M, finite_holds max X, a)

-- ---- the loop

module _ (one : Bool) (min max : Float) where
  over_driven : (n : ℕ) (r : Float) (o : Over one n r) (ps : List Float) → driven one min max n r ps ≡ ended o.end n r
  unfolding driven
  over_driven n r o [] = o.ended _
  over_driven n r o (p ∷ ps) = o.ended _

  over_lengths : (n : ℕ) (r : Float) → Over one n r → (ps : List Float) → driven_lengths one min max n r ps ≡ []
  unfolding driven_lengths
  over_lengths n r o [] = refl
  over_lengths n r o (p ∷ ps) = rw o.holds

  -- it answers as the step does, and takes its lengths
  abbrev Same : ℕ → Float → List Float → Type 0
  Same n r ps = (driven one min max n r ps ≡ walk one min max n r ps) × (driven_lengths one min max n r ps ≡ taken one min max n r ps)

  over_same : (n : ℕ) (r : Float) → Over one n r → (ps : List Float) → Same n r ps
  over_same n r o ps = (over_driven n r o ps ∙ sym (over_walk one min max n r o ps), over_lengths n r o ps ∙ sym (over_taken one min max n r o ps))

  module _ (M : T (Scale.finite min)) (X : T (Scale.finite max)) where
    same : (n : ℕ) (r : Float) (ps : List Float) → T (fits binary32 r) → T (Scale.finite r) → Same n r ps
    unfolding driven driven_lengths walk taken
    same n r [] F R = (refl, refl)
    same n r (p ∷ ps) F R = elim (look one n r) [
      | inl o ↦ over_same n r o (p ∷ ps)
      | inr o ↦ go (allowed r max p) refl (λ a. same (suc n) (r ⊖ raised r min p) ps (sub-fits binary32 r (raised r min p)) (next_finite r min max p F (both r (above_0 r o.remains) R) a))
    ]
      where
        go : (b : Bool) → allowed r max p ≡ b → (allowed r max p ≡ true → Same (suc n) (r ⊖ raised r min p) ps) → Same n r (p ∷ ps)
        go true a s = let e = substep_taken r min max p R M X a in (rw (e, a, (s a).0), rw (e, a, (s a).1))
        go false a s = let e = substep_broken r min max p R M X a in (rw (e, a), rw (e, a))

-- ---- of a step that is not refused ahead of its proposals

-- what its check has shown
record Passed (total max : Float) (substeps : ℕ) : Type 0 where
  pub total_finite : finite total ≡ true
  pub max_finite : finite max ≡ true
  pub some : 0 < substeps

passed : (total max : Float) (substeps stop count len : ℕ) → refused (step_check total max substeps stop count len) ≡ false → Passed total max substeps
unfolding step_check called
passed total max substeps stop count len e =
    let some = not (eqb substeps 0) in
    let p = Steps.passed (eqb len count && true) done (finite total && (finite max && true)) (codes (some ∷ is_flag stop ∷ [])) e in
    let s = and_split (finite total) (finite max && true) p.settings in
    let o = not_false (some && (is_flag stop && true)) (refuse_passed (not (some && (is_flag stop && true))) Code 0 p.own) in
    let ne = eqb-false substeps 0 (not_true (eqb substeps 0) (and_split some (is_flag stop && true) o).0) in
    record { total_finite = s.0; max_finite = (and_split (finite max) true s.1).0; some = pos_of_ne-zero ne }

pub same_least : (total max : Float) (substeps stop count len : ℕ) → step_check total max substeps stop count len ≡ done → min_dt total substeps ≡ Ok (min_of total substeps)
unfolding min_dt min_check
same_least total max substeps stop count len e =
    let c = passed total max substeps stop count len (ap refused e) in
    rw (c.total_finite, ne_eqb substeps 0 (λ z. omega (arith, c.some)))

pub drives : (total max : Float) (substeps stop count : ℕ) (proposals : List Float) → T (fits binary32 total) → step_check total max substeps stop count (length proposals) ≡ done
    → Driven total max substeps stop count proposals
unfolding step_lengths
drives total max substeps stop count proposals F e =
    let l = same_least total max substeps stop count (length proposals) e in
    record { same_answer = rw (l, e) both_same.0; same_lengths = rw l both_same.1 }
  where
    one : Bool
    one = not (eqb stop 0)

    c : Passed total max substeps
    c = passed total max substeps stop count (length proposals) (ap refused e)

    opened : Open one 0 total → Same one (min_of total substeps) max 0 total proposals
    opened o =
        let T-finite = finite_passed total c.total_finite in
        same one (min_of total substeps) max (div_finite total substeps F (both total (above_0 total o.remains) T-finite) c.some) (finite_passed max c.max_finite) 0 total proposals F T-finite

    both_same : Same one (min_of total substeps) max 0 total proposals
    both_same = elim (look one 0 total) [
      | inl o ↦ over_same one (min_of total substeps) max 0 total o proposals
      | inr o ↦ opened o
    ]
