-- `solver::scatter_regions` meets its contract: the regions before place-index of the order are scattered.
use Rattle.std.specs.Prelude.{◌≡◌, ◌*◌, length}
use Rattle.numeric.specs.Axes.{axes}
use Rattle.laws.specs.Store.{store, Holds}
use Rattle.grid.specs.Nodes.{node_form, region_cells}
use Rattle.solver.specs.Order.{in_order}
use Rattle.solver.proofs.scatter_regions.Given as goal

abbrev pub invariant-loop-place : goal.invariant-loop-place
invariant-loop-place l =
    let g = l.given in
    Holds node_form (store l.nf l.nw) (length g.ids.now * region_cells)
    × (store l.nf l.nw ≡ in_order g.cell_width g.dt (axes g.gravity) g.ids.now g.ranges.now (store g.pf.now g.pw.now) l.order l.place-index (store l.initial.nf l.initial.nw))
