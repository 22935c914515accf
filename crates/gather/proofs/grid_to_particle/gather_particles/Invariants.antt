-- `gather::grid_to_particle::gather_particles` meets its contract: the particles of the regions before r are changed, and the others as they were.
use Rattle.std.proofs.Common.{◌≡◌, ℕ}
use Rattle.laws.specs.Store.{store}
use Rattle.laws.specs.Hits.{run, gather, change_at}
use Rattle.grid.specs.Table.{before}
use Rattle.particles.specs.Particles.{particles}
use Rattle.gather.specs.Gather.{first_change}
use Rattle.gather.proofs.grid_to_particle.gather_particles.Given as goal

abbrev pub invariant-loop-r : goal.invariant-loop-r
invariant-loop-r l =
    store l.pf l.pw ≡ run particles (gather (change_at (λ (p : ℕ). first_change l.half.cell_width l.half.ids.now (store l.half.nf.now l.half.nw.now) l.half.dt l.half.modified_eigenerosion)) (before l.ranges l.r)) (store l.initial.pf l.initial.pw)
