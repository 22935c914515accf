-- `grid::inner::empty` meets its contract.
use Rattle.std.proofs.Common.{refl}
use Rattle.grid.proofs.inner.empty.Goals as goal

pub returns : goal.returns
returns c = refl
