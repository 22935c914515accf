-- `grid::inner::check_limits` meets its contract.
use mathlib.Core.Bool.{and-true}
use Rattle.grid.proofs.inner.check_limits.Goals as goal

pub returns : goal.returns
returns c = rw and-true c.refuse.ensures
