-- `grid::inner::check_regions` meets its contract: before a place no region is bad.
use Rattle.std.specs.Prelude.{◌≡◌, List, ℕ, ◌-◌, length}
use Rattle.grid.specs.Answers.{Answer, refuse, first_of}
use Rattle.grid.specs.Table.{bad_region}
use Rattle.grid.specs.declared.Rule.TheVariants.{RegionIds}
use Rattle.grid.proofs.inner.check_regions.Given as goal

abbrev pub judge : List ℕ → ℕ → Answer
judge ids k = refuse (bad_region ids k) RegionIds k

abbrev pub invariant-loop-place : goal.invariant-loop-place
invariant-loop-place l = first_of (judge l.ids) 0 (length l.ids) ≡ first_of (judge l.ids) l.place (length l.ids - l.place)
