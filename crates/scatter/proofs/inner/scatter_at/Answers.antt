-- `scatter::inner::scatter_at` meets its contract: the region's loops, for all of a scatter.
use Rattle.std.proofs.Common.{rules}
use Rattle.scatter.specs.Scatter.{region_scattered}
use Rattle.scatter.proofs.inner.scatter_at.Goals as goal

pub returns : goal.returns
unfolding region_scattered
returns c = search rules
