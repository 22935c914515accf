-- `numeric::kernel::eval_all` meets its contract: the code is the definition.
use Rattle.std.proofs.Common.{refl}
use Rattle.numeric.specs.Kernel.{eval_all}
use Rattle.numeric.proofs.kernel.eval_all.Goals as goal

pub returns : goal.returns
unfolding eval_all
returns c = refl
