-- `numeric::scalar::inv_exact` meets its contract: the code tests in the definition's order.
use Rattle.numeric.specs.Scalar.{inverse}
use Rattle.numeric.proofs.scalar.inv_exact.Goals as goal

pub returns-then-e : goal.returns-then-e
unfolding inverse
returns-then-e c = rw c.if-e.true

pub returns-else-e : goal.returns-else-e
unfolding inverse
returns-else-e c = rw c.if-e.false
