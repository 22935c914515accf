-- What crosses the boundary in another form than it has inside: a flag as 1 or 0, a signed number by its bits, a place with a flag, an answer by its number and its
-- index.
-- Assumes nothing.
use Rattle.std.proofs.lemmas.Int.{to_z-of_z}
use Rattle.std.proofs.Common.{◌≡◌, ap, sym, ◌∙◌, Bool, cond, ℕ, w32, SFits, of_z, to_z, Option}
use lib.IntN.{ℤ}
use Rattle.laws.specs.Refusals.{settle}
use Rattle.grid.specs.Answers.{number_of, index_of, refused, Answer}
use Rattle.boundary.specs.Crossing.{found_flag, found_place}

-- The answer was right and is the branch that was taken, so the number of the branch is the number of what is right.
pub flag : {answer right branch : Bool} → answer ≡ right → answer ≡ branch → cond {A = ℕ} branch 1 0 ≡ cond right 1 0
flag e t = ap (λ (b : Bool). cond {A = ℕ} b 1 0) (sym t ∙ e)

-- A number is passed by its bits, which stand for it again.
pub passed : {x : ℤ} → SFits w32 x → to_z w32 (of_z w32 x) ≡ x
passed {x} f = to_z-of_z w32 x f

-- The answer was right and is the case that was met, so flag and place of the case are those of what is right.
pub placed : {answer right case : Option ℕ} → answer ≡ right → answer ≡ case → (found_flag case ≡ found_flag right) × (found_place case ≡ found_place right)
placed e t = (ap found_flag (sym t ∙ e), ap found_place (sym t ∙ e))

-- The same of a call that may refuse: number and index crossed are those of its answer, which was right, and what the call leaves is so too.
pub answered : {S : Type 0} {answer right : Answer} {number index : ℕ} {left : S} (old new : S) → (answer ≡ right) × (left ≡ settle (refused answer) old new)
    → (number ≡ number_of answer) × (index ≡ index_of answer) → (number ≡ number_of right) × (index ≡ index_of right) × (left ≡ settle (refused right) old new)
answered old new (e, l) (n, i) = (n ∙ ap number_of e, i ∙ ap index_of e, l ∙ ap (λ (a : Answer). settle (refused a) old new) e)
