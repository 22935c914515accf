-- `boundary::sp_grid::mk_clear2` meets its contract, by what the functions of grid say.
use Rattle.std.proofs.Common.{rules}
use Rattle.boundary.proofs.Crossing.{answered}
use Rattle.boundary.proofs.sp_grid.mk_clear2.Goals as goal

pub returns : goal.returns
returns c = answered _ _ c.clear.ensures c.from.ensures
