-- `grid::inner::is_finite` meets its contract.
use Rattle.grid.proofs.Settings.{between}
use Rattle.grid.proofs.inner.is_finite.Goals as goal

pub returns : goal.returns
returns c = between c.args.x
