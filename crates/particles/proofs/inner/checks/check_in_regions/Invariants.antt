-- `particles::inner::checks::check_in_regions` meets its contract: before region r every particle is in its region.
use Rattle.std.proofs.Common.{◌≡◌, List, ℕ, ◌-◌, length, get_or, Float}
use Rattle.laws.specs.Store.{Store, store}
use Rattle.grid.specs.Answers.{first_of, Answer}
use Rattle.grid.specs.Table.{start_of, count_of}
use Rattle.grid.specs.declared.Rule.TheVariants.{OutOfRegion}
use Rattle.particles.specs.Table.{first_particle}
use Rattle.particles.proofs.inner.checks.check_in_regions.Given as goal

abbrev pub judge : Float → List ℕ → List ℕ → Store → ℕ → Answer
judge h ids ranges s r = first_particle OutOfRegion h ids (get_or ids r 0) s (start_of ranges r) (count_of ranges r)

abbrev pub invariant-loop-r : goal.invariant-loop-r
invariant-loop-r l = first_of (judge l.h l.ids l.ranges (store l.pf l.pw)) 0 (length l.ids) ≡ first_of (judge l.h l.ids l.ranges (store l.pf l.pw)) l.r (length l.ids - l.r)
