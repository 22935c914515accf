-- `gather::grid_to_particle::finish_particles` meets its contract: the particles below p are changed, and the others as they were.
use Rattle.std.proofs.Common.{◌≡◌}
use Rattle.laws.specs.Store.{store}
use Rattle.laws.specs.Hits.{run, gather, change_at}
use Rattle.particles.specs.Particles.{particles}
use Rattle.gather.specs.Gather.{second_change}
use Rattle.gather.proofs.grid_to_particle.finish_particles.Given as goal

abbrev pub invariant-loop-p : goal.invariant-loop-p
invariant-loop-p l = store l.pf l.pw ≡ run particles (gather (change_at (second_change (store l.gf l.gw))) l.p) (store l.initial.pf l.initial.pw)
