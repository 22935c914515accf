-- `cells::dim2::cell_center` meets its contract: packing's answer is a list of two coordinates, and the axes are taken one at a time.
use Rattle.cells.specs.Cells.{cell_center}
use Rattle.cells.proofs.dim2.cell_center.Goals as goal

pub returns : goal.returns
unfolding cell_center
returns c = rw (← c.unpack-cell.ensures, c.from_u32.ensures, c.from_u32-2.ensures)
