-- `grid::inner::check_cover` meets its contract: before region r all stand in place, and `next` is the sum of their counts.
use Rattle.std.specs.Prelude.{◌≡◌, List, ℕ, ◌-◌, ◌≤◌}
use Rattle.grid.specs.Answers.{Answer, refuse, first_of}
use Rattle.grid.specs.Table.{before, misplaced}
use Rattle.grid.specs.declared.Rule.TheVariants.{Cover}
use Rattle.grid.proofs.inner.check_cover.Given as goal

abbrev pub judge : List ℕ → ℕ → ℕ → Answer
judge ranges n r = refuse (misplaced ranges n r) Cover r

abbrev pub invariant-loop-r : goal.invariant-loop-r
invariant-loop-r l = (l.next ≤ l.particles) × (before l.ranges l.r ≡ l.next)
    × (first_of (judge l.ranges l.particles) 0 l.regions ≡ first_of (judge l.ranges l.particles) l.r (l.regions - l.r))
