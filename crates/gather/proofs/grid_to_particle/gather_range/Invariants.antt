-- `gather::grid_to_particle::gather_range` meets its contract: of the region's particles those before p are changed, and the others as they were.
use Rattle.std.proofs.Common.{◌≡◌, ◌-◌}
use Rattle.laws.specs.Store.{store}
use Rattle.laws.specs.Hits.{run}
use Rattle.particles.specs.Particles.{particles}
use Rattle.gather.specs.Gather.{first_change, changes_from}
use Rattle.gather.proofs.grid_to_particle.gather_range.Given as goal

abbrev pub invariant-loop-p : goal.invariant-loop-p
invariant-loop-p l =
    store l.pf l.pw ≡ run particles (changes_from (first_change l.half.cell_width l.half.ids.now (store l.half.nf.now l.half.nw.now) l.half.dt l.half.modified_eigenerosion) l.start (l.p - l.start)) (store l.initial.pf l.initial.pw)
