-- `grid::inner::is_finite_vector` meets its contract.
use mathlib.Core.Bool.{and-true}
use Rattle.grid.proofs.inner.is_finite_vector.Goals as goal

pub returns : goal.returns
returns c = rw (and-true, c.is_finite.ensures, c.is_finite-2.ensures)
