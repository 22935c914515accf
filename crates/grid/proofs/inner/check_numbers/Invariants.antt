-- `grid::inner::check_numbers` meets its contract: before place k every number is finite.
use Rattle.std.specs.Prelude.{◌≡◌, not, List, ℕ, ◌-◌, ◌/◌, length, get_or, Float}
use Rattle.std.specs.Float.{nan}
use Rattle.grid.specs.Answers.{Answer, refuse, first_of}
use Rattle.grid.specs.Table.{finite}
use Rattle.grid.specs.declared.Rule.TheVariants.{NotFinite}
use Rattle.grid.proofs.inner.check_numbers.Given as goal

abbrev pub judge : List Float → ℕ → ℕ → Answer
judge xs each k = refuse (not (finite (get_or xs k nan))) NotFinite (k / each)

abbrev pub invariant-loop-k : goal.invariant-loop-k
invariant-loop-k l = first_of (judge l.floats l.each) 0 (length l.floats) ≡ first_of (judge l.floats l.each) l.k (length l.floats - l.k)
