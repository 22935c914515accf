-- `numeric::dim2::stencil` meets its contract: by the vector between the points.
use Rattle.numeric.specs.Kernel.{stencil}
use Rattle.numeric.proofs.dim2.stencil.Goals as goal

pub returns : goal.returns
unfolding stencil
returns c = rw (← c.minus.ensures) c.stencil_with_dir.ensures
