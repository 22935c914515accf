-- `cells::dim2::cell_at_point` meets its contract: the id of both coordinates.
use Rattle.cells.specs.Cells.{cell_at_point}
use Rattle.cells.proofs.dim2.cell_at_point.Goals as goal

pub returns : goal.returns
unfolding cell_at_point
returns c = rw (← c.coord.ensures, ← c.coord-2.ensures) c.pack.ensures
