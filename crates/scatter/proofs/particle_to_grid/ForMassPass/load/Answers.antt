-- `scatter::particle_to_grid::ForMass`'s `load` meets its contract: the particle's mass.
use Rattle.std.proofs.Common.{refl}
use Rattle.scatter.specs.Hit.{weighed}
use Rattle.scatter.proofs.particle_to_grid.ForMassPass.load.Goals as goal

pub returns : goal.returns
unfolding weighed
returns c = refl
