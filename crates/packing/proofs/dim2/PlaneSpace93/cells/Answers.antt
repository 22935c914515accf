-- The cells of a region are 16: two digits for each axis, from digit 6 on.
use Rattle.packing.specs.Ids.{dim2, number}
use Rattle.packing.proofs.Fields.{read_fours, packed_fours}
use Rattle.packing.proofs.Computed.{rows}
use Rattle.packing.proofs.dim2.PlaneSpace93.cells.Goals as goal

pub returns-clause-read : goal.returns-clause-read
unfolding number dim2
returns-clause-read c = read_fours 6 dim2.sum_axes rows.0

pub returns-clause-placed : goal.returns-clause-placed
unfolding dim2
returns-clause-placed c = packed_fours 6 dim2.sum_axes rows.0
