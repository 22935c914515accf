-- `fluids::fluids_volume::check_fluids` meets its contract: the check of a stage, with the cell width as its one setting.
use Rattle.std.proofs.Common.{arith}
use Rattle.std.proofs.lemmas.Grind.{common_steps}
use Rattle.fluids.specs.Fluids.{fluids_check}
use Rattle.fluids.proofs.fluids_volume.check_fluids.Goals as goal

pub returns : goal.returns
unfolding fluids_check
returns c = grind (arith, common_steps)
