-- `scatter::inner::check_scatter` meets its contract: the check of a stage, with scatter's settings.
use Rattle.std.proofs.Common.{arith}
use Rattle.std.proofs.lemmas.Grind.{common_steps}
use Rattle.scatter.specs.Scatter.{scatter_check}
use Rattle.scatter.proofs.inner.check_scatter.Goals as goal

pub returns : goal.returns
unfolding scatter_check
returns c = grind (arith, common_steps)
