-- `cells::dim2::cell_associated_to_point` meets its contract: the id of both coordinates, one off each.
use Rattle.cells.specs.Cells.{cell_associated_to_point}
use Rattle.cells.proofs.dim2.cell_associated_to_point.Goals as goal

pub returns : goal.returns
unfolding cell_associated_to_point
returns c =
    rw (← c.coord.ensures, ← c.one_off.ensures, ← c.coord-2.ensures, ← c.one_off-2.ensures) c.pack.ensures
