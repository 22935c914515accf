-- `numeric::dim2::stencil_with_dir` meets its contract: an axis at a time.
use Rattle.numeric.specs.Kernel.{stencil_with_dir}
use Rattle.numeric.proofs.dim2.stencil_with_dir.Goals as goal

pub returns : goal.returns
unfolding stencil_with_dir
returns c = rw (c.eval.ensures, c.eval-2.ensures)
