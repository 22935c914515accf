-- `scatter::particle_to_grid::contribution_of` meets its contract, a part at a time.
use Rattle.scatter.specs.Hit.{brought}
use Rattle.scatter.proofs.particle_to_grid.contribution_of.Goals as goal

pub returns : goal.returns
unfolding brought
returns c = rw (← c.affine_of.ensures, ← c.psi_mass_of-psi_mass.ensures)
