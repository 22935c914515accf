-- `grid::inner::holds_nodes` meets its contract.
use mathlib.Core.Bool.{and-true}
use Rattle.grid.proofs.inner.holds_nodes.Goals as goal

pub returns : goal.returns
returns c = rw (and-true, c.fits.ensures, c.fits-2.ensures)
