-- `grid::inner::refuse` meets its contract.
use Rattle.grid.proofs.inner.refuse.Goals as goal

pub returns-then-holds : goal.returns-then-holds
returns-then-holds c = rw c.if-holds.true

pub returns : goal.returns
returns c = rw c.if-holds.false
