-- `fluids::fluids_volume::with_volume` meets its contract, in the order of the definition.
use Rattle.std.proofs.Common.{refl}
use Rattle.fluids.specs.Fluids.{with_volume}
use Rattle.fluids.proofs.fluids_volume.with_volume.Goals as goal

pub returns : goal.returns
unfolding with_volume
returns c = refl
