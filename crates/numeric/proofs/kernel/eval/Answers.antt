-- `numeric::kernel::eval` meets its contract: the code tests in the definition's order.
use Rattle.numeric.specs.Kernel.{eval}
use Rattle.numeric.proofs.kernel.eval.Goals as goal

pub returns-then-x_abs : goal.returns-then-x_abs
unfolding eval
returns-then-x_abs c = rw (← c.abs-x_abs.ensures, c.if-x_abs.true)

pub returns-then-x_abs-2 : goal.returns-then-x_abs-2
unfolding eval
returns-then-x_abs-2 c = rw (← c.abs-x_abs.ensures, c.if-x_abs.false, c.if-x_abs-2.true)

pub returns : goal.returns
unfolding eval
returns c = rw (← c.abs-x_abs.ensures, c.if-x_abs.false, c.if-x_abs-2.false)
