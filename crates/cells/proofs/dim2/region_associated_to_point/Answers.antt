-- `cells::dim2::region_associated_to_point` meets its contract: the region of that cell.
use Rattle.cells.specs.Cells.{region_associated_to_point}
use Rattle.cells.proofs.dim2.region_associated_to_point.Goals as goal

pub returns : goal.returns
unfolding region_associated_to_point
returns c = rw (← c.cell_associated_to_point.ensures) c.region_of.ensures
