-- `scatter::inner::scatter_all` meets its contract: the full scatter's loops, for all of a scatter.
use Rattle.scatter.specs.Scatter.{scattered}
use Rattle.scatter.proofs.inner.scatter_all.Goals as goal

pub returns : goal.returns
unfolding scattered
returns c = c.scatter_colors.ensures
