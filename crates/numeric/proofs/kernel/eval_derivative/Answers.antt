-- `numeric::kernel::eval_derivative` meets its contract: the code tests in the definition's order.
use Rattle.numeric.specs.Kernel.{eval_derivative}
use Rattle.numeric.proofs.kernel.eval_derivative.Goals as goal

pub returns-then-x_abs : goal.returns-then-x_abs
unfolding eval_derivative
returns-then-x_abs c = rw (← c.signum-sign.ensures, ← c.abs-x_abs.ensures, c.if-x_abs.true)

pub returns-then-x_abs-2 : goal.returns-then-x_abs-2
unfolding eval_derivative
returns-then-x_abs-2 c = rw (← c.signum-sign.ensures, ← c.abs-x_abs.ensures, c.if-x_abs.false, c.if-x_abs-2.true)

pub returns-else-x_abs-2 : goal.returns-else-x_abs-2
unfolding eval_derivative
returns-else-x_abs-2 c = rw (← c.abs-x_abs.ensures, c.if-x_abs.false, c.if-x_abs-2.false)
