-- One turn of a step: before each substep one of the first two ends holds, or the step is open; and what it then answers and takes. Assumes nothing.
use Rattle.std.proofs.Common.{◌≡◌, refl, sym, Bool, true, false, cond, not, ◌⊎◌, inl, inr, List, [], ◌∷◌, ℕ, suc, ◌+◌, ◌<◌, length, get_or, drop, arith, add-one, drop-cons, Option, Some, None, unwrap_or, Float}
use Rattle.std.specs.Float.{nan}
use Rattle.std.specs.Float.Ieee.{lt}
use Rattle.std.proofs.Math.Nat.{le_of_eq}
use Rattle.std.proofs.Math.ListN.{drop_of_length-le}
use Rattle.numeric.specs.Bits.{◌⊖◌, none}
use Rattle.grid.specs.Answers.{refuse}
use Rattle.grid.specs.declared.Rule.TheVariants.{Code}
use Rattle.lengths.specs.Lengths.{OrRefused, refused_by, unless_refused, ended, allowed, raised, finished, one_done, over, ends, walk, taken}
use Rattle.lengths.specs.declared.End.{End}
use Rattle.lengths.specs.declared.End.TheVariants.{Finished, OneSubstep, NoProposal}
use Rattle.lengths.specs.declared.Lengths.{Lengths}

-- the first two ends are not the third
pub finished_found : Finished ≡ NoProposal → ⊥
finished_found x = let z : ◌≡◌ {A = ℕ} 0 1 = cc in omega arith

pub stop_found : OneSubstep ≡ NoProposal → ⊥
stop_found x = let z : ◌≡◌ {A = ℕ} 0 1 = cc in omega arith

module _ (one : Bool) (n : ℕ) (r : Float) where
  -- after n substeps, with r remaining
  pub record Over : Type 0 where
    pub end : End
    pub ended : (on : OrRefused Lengths) → ends one n r on ≡ ended end n r
    pub holds : over one n r ≡ true
    pub found : end ≡ NoProposal → ⊥

  pub record Open : Type 0 where
    pub remains : lt none r ≡ true
    pub more : one_done one n ≡ false

  abbrev finish : lt none r ≡ false → Over
  finish e = record { end = Finished; ended = λ on. rw e; holds = rw e; found = finished_found }

  abbrev stop : lt none r ≡ true → one_done one n ≡ true → Over
  stop e f = record { end = OneSubstep; ended = λ on. rw (e, f); holds = rw (e, f); found = stop_found }

  pub look : Over ⊎ Open
  look = go (lt none r) (one_done one n) refl refl
    where
      go : (a b : Bool) → lt none r ≡ a → one_done one n ≡ b → Over ⊎ Open
      go false b e f = inl (finish e)
      go true true e f = inl (stop e f)
      go true false e f = inr (record { remains = e; more = f })

module _ (one : Bool) (min max : Float) (n : ℕ) (r : Float) where
  pub over_walk : (o : Over one n r) (ps : List Float) → walk one min max n r ps ≡ ended o.end n r
  unfolding walk
  over_walk o [] = o.ended (ended NoProposal n r)
  over_walk o (p ∷ ps) = rw o.ended

  pub over_taken : Over one n r → (ps : List Float) → taken one min max n r ps ≡ []
  unfolding taken
  over_taken o [] = refl
  over_taken o (p ∷ ps) = rw o.holds

  module _ (o : Open one n r) where
    pub open_ends : (on : OrRefused Lengths) → ends one n r on ≡ on
    open_ends on = rw (o.remains, o.more)

    pub open_none : walk one min max n r [] ≡ ended NoProposal n r
    unfolding walk
    open_none = open_ends (ended NoProposal n r)

    pub open_broken : (p : Float) (ps : List Float) → allowed r max p ≡ false → walk one min max n r (p ∷ ps) ≡ refused_by Code n
    unfolding walk
    open_broken p ps a = rw (o.remains, o.more, a)

    pub open_walk : (p : Float) (ps : List Float) → allowed r max p ≡ true → walk one min max n r (p ∷ ps) ≡ walk one min max (suc n) (r ⊖ raised r min p) ps
    unfolding walk
    open_walk p ps a = rw (o.remains, o.more, a)

    pub open_taken : (p : Float) (ps : List Float) → allowed r max p ≡ true
        → taken one min max n r (p ∷ ps) ≡ raised r min p ∷ taken one min max (suc n) (r ⊖ raised r min p) ps
    unfolding taken
    open_taken p ps a = rw (o.remains, o.more, a)

-- ---- as the code looks at them

-- the first of the two ends that holds
abbrev pub end_of : Bool → ℕ → Float → Option End
end_of one n r = cond (finished r) (Some Finished) (cond (one_done one n) (Some OneSubstep) None)

module _ (one : Bool) (n : ℕ) (r : Float) where
  -- an end that holds is what is answered
  ends_by : (e : End) (on : OrRefused Lengths) → end_of one n r ≡ Some e → ends one n r on ≡ ended e n r
  ends_by e on h = go (finished r) (one_done one n) h
    where
      go : (a b : Bool) → cond a (Some Finished) (cond b (Some OneSubstep) None) ≡ Some e → cond a (ended Finished n r) (cond b (ended OneSubstep n r) on) ≡ ended e n r
      go true b x = cc
      go false true x = cc
      go false false x = cc

  -- where none holds the step is open
  pub open_of : end_of one n r ≡ None → Open one n r
  open_of h = go (lt none r) (one_done one n) refl refl h
    where
      go : (a b : Bool) → lt none r ≡ a → one_done one n ≡ b → cond (not a) (Some Finished) (cond b (Some OneSubstep) None) ≡ None → Open one n r
      go true false e f x = record { remains = e; more = f }
      go true true e f x = cc
      go false b e f x = cc

  -- behind the last proposal
  pub ends_last : ended (unwrap_or (end_of one n r) NoProposal) n r ≡ ends one n r (ended NoProposal n r)
  ends_last = go (finished r) (one_done one n)
    where
      go : (a b : Bool) → ended (unwrap_or (cond a (Some Finished) (cond b (Some OneSubstep) None)) NoProposal) n r ≡ cond a (ended Finished n r) (cond b (ended OneSubstep n r) (ended NoProposal n r))
      go true b = refl
      go false true = refl
      go false false = refl

module _ (one : Bool) (min max : Float) (n : ℕ) (r : Float) where
  pub end_walk : (e : End) (ps : List Float) → end_of one n r ≡ Some e → walk one min max n r ps ≡ ended e n r
  unfolding walk
  end_walk e [] h = ends_by one n r e _ h
  end_walk e (p ∷ ps) h = ends_by one n r e _ h

  -- the n-th of all proposals is refused, or the step goes on behind it
  pub turn : (ps : List Float) → end_of one n r ≡ None → n < length ps → let p = get_or ps n nan in
      walk one min max n r (drop n ps) ≡ unless_refused (refuse (not (allowed r max p)) Code n) (walk one min max (n + 1) (r ⊖ raised r min p) (drop (n + 1) ps))
  turn ps h l = go (open_of one n r h) (allowed r max (get_or ps n nan)) refl
    where
      go : Open one n r → (b : Bool) → allowed r max (get_or ps n nan) ≡ b → walk one min max n r (drop n ps) ≡ unless_refused (refuse (not (allowed r max (get_or ps n nan))) Code n) (walk one min max (n + 1) (r ⊖ raised r min (get_or ps n nan)) (drop (n + 1) ps))
      go o true a = rw (a, add-one, drop-cons ps n nan l) (open_walk one min max n r o (get_or ps n nan) (drop (suc n) ps) a)
      go o false a = rw (a, drop-cons ps n nan l) (open_broken one min max n r o (get_or ps n nan) (drop (suc n) ps) a)

  -- none is left
  pub last : (ps : List Float) → n ≡ length ps → walk one min max n r (drop n ps) ≡ ended (unwrap_or (end_of one n r) NoProposal) n r
  unfolding walk
  last ps e = rw (drop_of_length-le ps (le_of_eq (sym e))) (sym (ends_last one n r))
