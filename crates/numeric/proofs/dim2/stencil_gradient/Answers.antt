-- `numeric::dim2::stencil_gradient` meets its contract: by the vector between the points.
use Rattle.numeric.specs.Kernel.{stencil_gradient}
use Rattle.numeric.proofs.dim2.stencil_gradient.Goals as goal

pub returns : goal.returns
unfolding stencil_gradient
returns c = rw (← c.minus.ensures) c.stencil_gradient_with_dir.ensures
