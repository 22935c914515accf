-- `grid::inner::check_call` meets its contract, step by step.
use Rattle.grid.proofs.Steps.{called_is}
use Rattle.grid.proofs.inner.check_call.Goals as goal

pub returns : goal.returns
returns c = rw (called_is, c.first_refusal-3.ensures, c.first_refusal-2.ensures, c.first_refusal.ensures, c.refuse-2.ensures, c.refuse.ensures)
