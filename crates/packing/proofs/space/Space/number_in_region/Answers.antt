-- A cell's number stands in its id.
use Rattle.packing.proofs.Fields.{some_cells}
use Rattle.packing.proofs.space.Space.number_in_region.Goals as goal

pub nonzero_rem-result : goal.nonzero_rem-result
nonzero_rem-result g c = some_cells _ c.cells.ensures.count
