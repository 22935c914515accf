-- `cells::dim2::cell_pos_closest_to_point` meets its contract: an axis at a time.
use Rattle.cells.specs.Cells.{cell_pos_closest_to_point}
use Rattle.cells.proofs.dim2.cell_pos_closest_to_point.Goals as goal

pub returns : goal.returns
unfolding cell_pos_closest_to_point
returns c = rw (c.round.ensures, c.round-2.ensures)
