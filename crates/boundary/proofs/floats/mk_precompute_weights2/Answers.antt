-- `boundary::floats::mk_precompute_weights2` meets its contract: numeric's answer is a list of two, whose entries these are.
use Rattle.std.proofs.Common.{rules}
use Rattle.numeric.specs.Kernel.{precompute_weights}
use Rattle.boundary.proofs.floats.mk_precompute_weights2.Goals as goal

pub returns : goal.returns
unfolding precompute_weights
returns c = rw c.precompute_weights-weights.ensures
