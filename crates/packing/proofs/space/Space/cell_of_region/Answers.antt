-- A cell's number goes where it stands.
use Rattle.packing.proofs.Fields.{some_cells, cell_is}
use Rattle.packing.proofs.space.Space.cell_of_region.Goals as goal

pub nonzero_rem-number : goal.nonzero_rem-number
nonzero_rem-number g c = some_cells _ c.cells.ensures.count

pub returns : goal.returns
returns g c =
    let k = c.cells.ensures in
    cell_is _ _ _ (some_cells _ k.count) k.few (k.placed _) c.region_of.ensures c.packed_add.ensures
