-- `numeric::dim2::precompute_weights` meets its contract: an axis at a time.
use Rattle.numeric.specs.Kernel.{precompute_weights}
use Rattle.numeric.proofs.dim2.precompute_weights.Goals as goal

pub returns : goal.returns
unfolding precompute_weights
returns c = rw (c.eval_all.ensures, c.eval_all-2.ensures)
