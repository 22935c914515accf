-- `gather::grid_to_particle::advance` meets its contract, a part at a time.
use Rattle.gather.specs.Transfer.{moved, advanced}
use Rattle.gather.proofs.grid_to_particle.advance.Goals as goal

pub returns : goal.returns
unfolding advanced moved
returns c = rw (← c.velocity_of-velocity.ensures, ← c.phase_of.ensures, ← c.deform.ensures)
