-- `scatter::particle_to_grid::ForMass`'s `unload` meets its contract, in the order of the definition.
use Rattle.scatter.specs.Hit.{weighed_node}
use Rattle.scatter.proofs.particle_to_grid.ForMassPass.unload.Goals as goal

pub returns : goal.returns
unfolding weighed_node
returns c = rw (← c.args.at.now.weighs, c.weight.ensures)
