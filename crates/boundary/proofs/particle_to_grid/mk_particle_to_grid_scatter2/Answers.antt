-- `boundary::particle_to_grid::mk_particle_to_grid_scatter2` meets its contract, by what the functions of scatter say.
use Rattle.std.proofs.Common.{rules}
use Rattle.boundary.proofs.Crossing.{answered}
use Rattle.boundary.proofs.particle_to_grid.mk_particle_to_grid_scatter2.Goals as goal

pub returns : goal.returns
returns c = answered _ _ c.particle_to_grid_scatter.ensures c.from.ensures
