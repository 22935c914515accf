-- `boundary::grid_to_particle::mk_grid_to_particle_second_half2` meets its contract, by what the function of gather says.
use Rattle.std.proofs.Common.{rules}
use Rattle.boundary.proofs.Crossing.{answered}
use Rattle.boundary.proofs.grid_to_particle.mk_grid_to_particle_second_half2.Goals as goal

pub returns : goal.returns
returns c = answered _ _ c.grid_to_particle_second_half.ensures c.from.ensures
