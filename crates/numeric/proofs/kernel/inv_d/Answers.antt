-- `numeric::kernel::inv_d` meets its contract: the code is the definition.
use Rattle.std.proofs.Common.{refl}
use Rattle.numeric.specs.Kernel.{inv_d}
use Rattle.numeric.proofs.kernel.inv_d.Goals as goal

pub returns : goal.returns
unfolding inv_d
returns c = refl
