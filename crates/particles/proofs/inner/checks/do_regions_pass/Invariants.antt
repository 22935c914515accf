-- `particles::inner::checks::do_regions_pass` meets its contract: before region r every particle passes.
use Rattle.std.proofs.Common.{ℕ, ◌<◌, get_or}
use Rattle.laws.specs.Store.{store}
use Rattle.grid.specs.Table.{start_of, count_of}
use Rattle.particles.specs.Table.{AllPass}
use Rattle.particles.proofs.inner.checks.do_regions_pass.Given as goal

abbrev pub invariant-loop-r : goal.invariant-loop-r
invariant-loop-r l = (i : ℕ) → i < l.r → let s = l.sample in AllPass s.h s.ids.now (get_or s.ids.now i 0) (store s.pf.now s.pw.now) (start_of s.ranges.now i) (count_of s.ranges.now i)
