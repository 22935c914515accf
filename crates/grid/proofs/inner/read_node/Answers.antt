-- `grid::inner::read_node` meets its contract: the fields are the stretches' entries, in order.
use Rattle.std.proofs.Common.{refl}
use Rattle.grid.specs.Nodes.{node_at}
use Rattle.grid.proofs.inner.read_node.Goals as goal

pub returns : goal.returns
unfolding node_at
returns c = refl
