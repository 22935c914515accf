-- `scatter::inner::scatter_mass` meets its contract: the full scatter's loops, for mass alone.
use Rattle.scatter.specs.Scatter.{mass_scattered}
use Rattle.scatter.proofs.inner.scatter_mass.Goals as goal

pub returns : goal.returns
unfolding mass_scattered
returns c = c.scatter_colors.ensures
