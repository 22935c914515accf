-- `scatter::particle_to_grid::hit_column` meets its contract: the cells of the column below j are hit.
use Rattle.std.proofs.Common.{◌≡◌, length}
use Rattle.numeric.specs.Axes.{axes}
use Rattle.laws.specs.Store.{store, Holds}
use Rattle.laws.specs.Hits.{run, gather}
use Rattle.cells.specs.Stencil.{step_at}
use Rattle.grid.specs.Nodes.{node_form, nodes}
use Rattle.scatter.specs.Scatter.{cell_hits}
use Rattle.scatter.proofs.particle_to_grid.hit_column.Given as goal

abbrev pub invariant-loop-j : goal.invariant-loop-j
invariant-loop-j g l = Holds node_form (store l.nf l.nw) (length l.initial.nw)
    × (store l.nf l.nw ≡ run nodes (gather (λ j. cell_hits l.block (g.P.Pass.changed_by l.pass l.at.cell_width (axes l.at.dir) l.load) l.at.corner l.x (step_at j)) l.j) (store l.initial.nf l.initial.nw))
