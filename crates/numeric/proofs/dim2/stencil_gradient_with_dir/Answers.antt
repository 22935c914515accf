-- `numeric::dim2::stencil_gradient_with_dir` meets its contract: an axis at a time.
use Rattle.numeric.specs.Kernel.{stencil_gradient_with_dir}
use Rattle.numeric.proofs.dim2.stencil_gradient_with_dir.Goals as goal

pub returns : goal.returns
unfolding stencil_gradient_with_dir
returns c = rw (c.eval-val_x.ensures, c.eval-val_y.ensures, c.eval_derivative.ensures, c.eval_derivative-2.ensures)
