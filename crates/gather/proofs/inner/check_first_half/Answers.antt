-- `gather::inner::check_first_half` meets its contract: the check of a stage, with the half's settings.
use Rattle.std.proofs.Common.{arith}
use Rattle.std.proofs.lemmas.Grind.{common_steps}
use Rattle.gather.specs.Gather.{first_check}
use Rattle.gather.proofs.inner.check_first_half.Goals as goal

pub returns : goal.returns
unfolding first_check
returns c = grind (arith, common_steps)
