-- `boundary::particle_to_grid::mk_scatter_in_order2` meets its contract, by what the function of solver says.
use Rattle.std.proofs.Common.{rules}
use Rattle.boundary.proofs.Crossing.{answered}
use Rattle.boundary.proofs.particle_to_grid.mk_scatter_in_order2.Goals as goal

pub returns : goal.returns
returns c = answered _ _ c.scatter_in_order.ensures c.from.ensures
