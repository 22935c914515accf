-- `grid::inner::is_step` meets its contract.
use Rattle.grid.specs.Table.{good_step}
use Rattle.grid.proofs.inner.is_step.Goals as goal

pub returns : goal.returns
unfolding good_step
returns c = rw c.is_finite.ensures
