-- `scatter::particle_to_grid::ForAll`'s `load` meets its contract: what the particle brings.
use Rattle.scatter.specs.Hit.{changed}
use Rattle.scatter.proofs.particle_to_grid.ForAllPass.load.Goals as goal

pub returns : goal.returns
unfolding changed
returns c = rw (← c.contribution_of.ensures)
