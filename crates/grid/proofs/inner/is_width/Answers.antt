-- `grid::inner::is_width` meets its contract.
use Rattle.grid.specs.Table.{good_width}
use Rattle.grid.proofs.Settings.{width}
use Rattle.grid.proofs.inner.is_width.Goals as goal

pub returns : goal.returns
unfolding good_width
returns c = width c.args.h
