-- Document 01, "Lengths": the substeps of a step, by the host's proposals; and what a call is refused for. Definitions, and what is proved of them.
-- Assumes nothing.
use Rattle.std.specs.Prelude.{◌≡◌, Bool, cond, ◌&&◌, ◌||◌, not, List, [], ◌∷◌, ◌++◌, ℕ, suc, T, eqb, Float, length, take, Result, Ok, Err}
use Rattle.std.specs.Float.{binary32}
use Rattle.std.specs.Float.Ieee.{fits, lt, le}
use Rattle.numeric.specs.Bits.{◌⊖◌, ◌⊘◌, none}
use Rattle.numeric.specs.Round.{nearest_to}
use Rattle.grid.specs.Answers.{number, first, Answer, done}
use Rattle.grid.specs.Table.{lengths, finite, settings, codes, is_flag}
use Rattle.grid.specs.declared.Refusal.{Refusal}
use Rattle.grid.specs.declared.Rule.{Rule}
use Rattle.grid.specs.declared.Rule.TheVariants.{Code}
use Rattle.lengths.specs.declared.End.{End}
use Rattle.lengths.specs.declared.End.TheVariants.{Finished, OneSubstep, NoProposal}
use Rattle.lengths.specs.declared.Lengths.{Lengths}
use Rattle.lengths.specs.declared.Substep.{Substep}

-- ---- what a call answers: what it was asked for, or a rule and an index by which it is refused

abbrev pub OrRefused : Type 0 → Type 0
OrRefused A = Result A Refusal

abbrev pub refused_by : {A : Type 0} → Rule → ℕ → OrRefused A
refused_by rule k = Err (record { rule = rule; index = k })

-- refused as its check says, or answered
abbrev pub unless_refused : {A : Type 0} → Answer → OrRefused A → OrRefused A
unless_refused (Ok u) answer = answer
unless_refused (Err e) answer = Err e

-- a step that ended by e after n substeps, with a time that remains
abbrev pub ended : End → ℕ → Float → OrRefused Lengths
ended e n remaining = Ok (record { end = e; count = n; remaining = remaining })

-- a substep of this length, and the time that remains behind it
abbrev pub took : Float → Float → OrRefused Substep
took dt remaining = Ok (record { length = dt; remaining = remaining })

-- ---- one substep

-- min = total/max_num_substeps, as an f32
abbrev pub min_of : Float → ℕ → Float
min_of total substeps = total ⊘ nearest_to substeps

-- a proposal must be above 0 and at most min(remaining, max_substep_dt)
unfoldable pub allowed : Float → Float → Float → Bool
allowed remaining max proposal = lt none proposal && (le proposal remaining && le proposal max)

-- it is raised to min if below and remaining > min
unfoldable pub raised : Float → Float → Float → Float
raised remaining min proposal = cond (lt proposal min && lt min remaining) min proposal

-- ---- all of them

-- it goes on while remaining > 0
abbrev pub finished : Float → Bool
finished remaining = not (lt none remaining)

-- one substep is done and asked for
abbrev pub one_done : Bool → ℕ → Bool
one_done one n = one && not (eqb n 0)

-- The ends, looked at before each substep, after n of them: finished; one substep; or on to the next proposal, or that there is none.
abbrev pub ends : Bool → ℕ → Float → OrRefused Lengths → OrRefused Lengths
ends one n remaining on = cond (finished remaining) (ended Finished n remaining) (cond (one_done one n) (ended OneSubstep n remaining) on)

module _ (one : Bool) (min max : Float) where
  -- from n substeps and what remains on, with the proposals that are left: take the next, raise it, subtract
  unfoldable pub walk : ℕ → Float → List Float → OrRefused Lengths
  walk n remaining [] = ends one n remaining (ended NoProposal n remaining)
  walk n remaining (p ∷ ps) = ends one n remaining (cond (allowed remaining max p) (walk (suc n) (remaining ⊖ raised remaining min p) ps) (refused_by Code n))

-- ---- what a call is refused for, and what it answers

-- of the step, ahead of its proposals: 1; 3; max_num_substeps 0 and the stop flag in 4
unfoldable pub step_check : Float → Float → ℕ → ℕ → ℕ → ℕ → Answer
step_check total max substeps stop count len =
    first (
    lengths ((len, count) ∷ [])
    ∷ settings (finite total ∷ finite max ∷ [])
    ∷ codes (not (eqb substeps 0) ∷ is_flag stop ∷ [])
    ∷ []
    )

unfoldable pub step_lengths : Float → Float → ℕ → ℕ → ℕ → List Float → OrRefused Lengths
step_lengths total max substeps stop count proposals =
    unless_refused (step_check total max substeps stop count (length proposals)) (walk (not (eqb stop 0)) (min_of total substeps) max 0 total proposals)

-- of the least length: 3; max_num_substeps 0 in 4
unfoldable pub min_check : Float → ℕ → Answer
min_check total substeps =
    first (
    settings (finite total ∷ [])
    ∷ codes (not (eqb substeps 0) ∷ [])
    ∷ []
    )

unfoldable pub min_dt : Float → ℕ → OrRefused Float
min_dt total substeps = unless_refused (min_check total substeps) (Ok (min_of total substeps))

-- of one substep: 3; a proposal that breaks its rule in 4
unfoldable pub substep_check : Float → Float → Float → Float → Answer
substep_check remaining min max proposal =
    first (
    settings (finite remaining ∷ finite min ∷ finite max ∷ [])
    ∷ codes (allowed remaining max proposal ∷ [])
    ∷ []
    )

-- its length, and what remains
unfoldable pub substep : Float → Float → Float → Float → OrRefused Substep
substep remaining min max proposal =
    let dt = raised remaining min proposal in
    unless_refused (substep_check remaining min max proposal) (took dt (remaining ⊖ dt))

-- ---- number and values of each case of an answer: of a refused one the number and the index, and all else 0

abbrev pub end_number : End → ℕ
end_number Finished = 0
end_number OneSubstep = 1
end_number NoProposal = 2

abbrev pub step_number : OrRefused Lengths → ℕ
step_number (Ok l) = 0
step_number (Err e) = number e.rule

abbrev pub step_index : OrRefused Lengths → ℕ
step_index (Ok l) = 0
step_index (Err e) = e.index

abbrev pub step_count : OrRefused Lengths → ℕ
step_count (Ok l) = l.count
step_count (Err e) = 0

abbrev pub step_remaining : OrRefused Lengths → Float
step_remaining (Ok l) = l.remaining
step_remaining (Err e) = none

abbrev pub step_end : OrRefused Lengths → ℕ
step_end (Ok l) = end_number l.end
step_end (Err e) = 0

abbrev pub min_number : OrRefused Float → ℕ
min_number (Ok dt) = 0
min_number (Err e) = number e.rule

abbrev pub min_index : OrRefused Float → ℕ
min_index (Ok dt) = 0
min_index (Err e) = e.index

abbrev pub min_length : OrRefused Float → Float
min_length (Ok dt) = dt
min_length (Err e) = none

abbrev pub substep_number : OrRefused Substep → ℕ
substep_number (Ok s) = 0
substep_number (Err e) = number e.rule

abbrev pub substep_index : OrRefused Substep → ℕ
substep_index (Ok s) = 0
substep_index (Err e) = e.index

abbrev pub substep_length : OrRefused Substep → Float
substep_length (Ok s) = s.length
substep_length (Err e) = none

abbrev pub substep_remaining : OrRefused Substep → Float
substep_remaining (Ok s) = s.remaining
substep_remaining (Err e) = none

-- ---- what is proved of a step

-- one of the first two ends holds
abbrev pub over : Bool → ℕ → Float → Bool
over one n remaining = finished remaining || one_done one n

module _ (one : Bool) (min max : Float) where
  -- the lengths that are subtracted, in order
  unfoldable pub taken : ℕ → Float → List Float → List Float
  taken n remaining [] = []
  taken n remaining (p ∷ ps) =
      let dt = raised remaining min p in
      cond (over one n remaining) [] (cond (allowed remaining max p) (dt ∷ taken (suc n) (remaining ⊖ dt) ps) [])

-- what is left of a time when lengths are subtracted, one after the other
unfoldable pub less : Float → List Float → Float
less time [] = time
less time (dt ∷ dts) = less (time ⊖ dt) dts

-- where it ends by e after n substeps, with a time that remains
pub record Ending (one : Bool) (min max total : Float) (proposals : List Float) (e : End) (n : ℕ) (remaining : Float) : Type 0 where
  -- The count is that of the subtractions, and what remains is what they leave.
  pub counted : n ≡ length (taken one min max 0 total proposals)
  pub subtracted : remaining ≡ less total (taken one min max 0 total proposals)
  -- It ends by the first end that holds there; for want of a proposal, where all are taken.
  pub first_end : ends one n remaining (ended NoProposal n remaining) ≡ ended e n remaining
  pub spent : e ≡ NoProposal → n ≡ length proposals
  -- Proposals past the end are not looked at.
  pub unlooked : (e ≡ NoProposal → ⊥) → (others : List Float) → walk one min max 0 total (take n proposals ++ others) ≡ ended e n remaining

-- ---- and of a host's own loop

-- on with a substep that is taken, or not
abbrev pub after : {A : Type 0} → OrRefused Substep → (Float → Float → A) → (Rule → A) → A
after (Ok s) on off = on s.length s.remaining
after (Err e) on off = off e.rule

module _ (one : Bool) (min max : Float) where
  -- It looks at the ends as a step does, hands each proposal to `substep`, and goes on with what that answers; or it is refused, with the proposal's index.
  unfoldable pub driven : ℕ → Float → List Float → OrRefused Lengths
  driven n remaining [] = ends one n remaining (ended NoProposal n remaining)
  driven n remaining (p ∷ ps) = ends one n remaining (after (substep remaining min max p) (λ dt left. driven (suc n) left ps) (λ rule. refused_by rule n))

  -- the lengths that it is answered
  unfoldable pub driven_lengths : ℕ → Float → List Float → List Float
  driven_lengths n remaining [] = []
  driven_lengths n remaining (p ∷ ps) = cond (over one n remaining) [] (after (substep remaining min max p) (λ dt left. dt ∷ driven_lengths (suc n) left ps) (λ rule. []))

-- With the least length that `min_dt` answers it answers what the step answers, and takes the lengths that the step subtracts.
pub record Driven (total max : Float) (substeps stop count : ℕ) (proposals : List Float) : Type 0 where
  pub same_answer : driven (not (eqb stop 0)) (min_length (min_dt total substeps)) max 0 total proposals ≡ step_lengths total max substeps stop count proposals
  pub same_lengths : driven_lengths (not (eqb stop 0)) (min_length (min_dt total substeps)) max 0 total proposals ≡ taken (not (eqb stop 0)) (min_of total substeps) max 0 total proposals

pub record Laws : Type 0 where
  -- of every step that ends
  pub ending : (total max : Float) (substeps stop count : ℕ) (proposals : List Float) (e : End) (n : ℕ) (remaining : Float)
      → step_lengths total max substeps stop count proposals ≡ ended e n remaining → Ending (not (eqb stop 0)) (min_of total substeps) max total proposals e n remaining
  -- of every step that is not refused ahead of its proposals: `min_dt` answers the length that the step raises to
  pub same_least : (total max : Float) (substeps stop count len : ℕ) → step_check total max substeps stop count len ≡ done → min_dt total substeps ≡ Ok (min_of total substeps)
  -- and a host's loop with it goes as the step does; its total is an f32
  pub driving : (total max : Float) (substeps stop count : ℕ) (proposals : List Float) → T (fits binary32 total)
      → step_check total max substeps stop count (length proposals) ≡ done → Driven total max substeps stop count proposals
