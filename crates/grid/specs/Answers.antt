-- Document 01, "Numbers a call answers": the answers of a call, their numbers and indices, and the first of several. Definitions only.
use Rattle.std.specs.Prelude.{Bool, true, false, List, ℕ, Result, Ok, Err, ⊤}
use Rattle.laws.specs.Refusals as Refusals
use Rattle.grid.specs.declared.Refusal.{Refusal}
use Rattle.grid.specs.declared.Rule.{Rule}
use Rattle.grid.specs.declared.Rule.TheVariants.{Length, Limit, Setting, Code, NotFinite, RegionIds, Cover, OffGrid, OutOfRegion, Unlisted}

-- the number of a rule in the table
abbrev pub number : Rule → ℕ
number Length = 1
number Limit = 2
number Setting = 3
number Code = 4
number NotFinite = 5
number RegionIds = 6
number Cover = 7
number OffGrid = 8
number OutOfRegion = 9
number Unlisted = 10

-- A call is done, or refused by a rule at an index.
abbrev pub Answer : Type 0
Answer = Result ⊤ Refusal

abbrev pub done : Answer
done = Ok tt

abbrev pub refusal : Rule → ℕ → Answer
refusal r k = Err (record { rule = r; index = k })

-- The answer is the number and the first offending record's index; 0 is done.
abbrev pub number_of : Answer → ℕ
number_of (Ok _) = 0
number_of (Err e) = number e.rule

abbrev pub index_of : Answer → ℕ
index_of (Ok _) = 0
index_of (Err e) = e.index

abbrev pub refused : Answer → Bool
refused (Ok _) = false
refused (Err e) = true

-- refused by the rule at the index, where its condition holds
abbrev pub refuse : Bool → Rule → ℕ → Answer
refuse true r k = refusal r k
refuse false r k = done

-- the first of two, of a list, of the records from i on, n of them
abbrev pub unless : Answer → Answer → Answer
unless a b = Refusals.unless refused a b

abbrev pub first : List Answer → Answer
first answers = Refusals.first refused done answers

abbrev pub first_of : (ℕ → Answer) → ℕ → ℕ → Answer
first_of judge i n = Refusals.first_of refused done judge i n
