-- The cells of a region are 64: two digits for each axis, from digit 6 on.
use Rattle.packing.specs.Ids.{dim3, number}
use Rattle.packing.proofs.Fields.{read_fours, packed_fours}
use Rattle.packing.proofs.Computed.{rows}
use Rattle.packing.proofs.dim3.SolidSpace277.cells.Goals as goal

pub returns-clause-read : goal.returns-clause-read
unfolding number dim3
returns-clause-read c = read_fours 6 dim3.sum_axes rows.1

pub returns-clause-placed : goal.returns-clause-placed
unfolding dim3
returns-clause-placed c = packed_fours 6 dim3.sum_axes rows.1
