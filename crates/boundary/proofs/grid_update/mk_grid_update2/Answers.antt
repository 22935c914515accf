-- `boundary::grid_update::mk_grid_update2` meets its contract, by what the function of update says.
use Rattle.std.proofs.Common.{rules}
use Rattle.boundary.proofs.Crossing.{answered}
use Rattle.boundary.proofs.grid_update.mk_grid_update2.Goals as goal

pub returns : goal.returns
returns c = answered _ _ c.grid_update.ensures c.from.ensures
