-- `cells::inner::dir_to_associated_grid_node` meets its contract: an axis at a time.
use Rattle.std.proofs.Common.{List, get_or, ap, Float}
use lib.Ieee.{nan}
use Rattle.cells.specs.Stencil.{dir_to_associated_grid_node}
use Rattle.cells.proofs.inner.dir_to_associated_grid_node.Goals as goal

pub returns : goal.returns
unfolding dir_to_associated_grid_node
returns c =
    let near = c.requires in
    rw (ap (λ (xs : List Float). get_or xs 0 nan) near, ap (λ (xs : List Float). get_or xs 1 nan) near)
