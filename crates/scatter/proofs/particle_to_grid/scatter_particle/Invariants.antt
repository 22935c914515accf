-- `scatter::particle_to_grid::scatter_particle` meets its contract: the columns of the stencil below i are hit.
use Rattle.std.proofs.Common.{◌≡◌, length}
use Rattle.numeric.specs.Axes.{axes}
use Rattle.laws.specs.Store.{store, Holds}
use Rattle.laws.specs.Hits.{run, gather}
use Rattle.cells.specs.Stencil.{step_at}
use Rattle.grid.specs.Nodes.{node_form, nodes}
use Rattle.scatter.specs.Scatter.{column_hits}
use Rattle.scatter.proofs.particle_to_grid.scatter_particle.Given as goal

abbrev pub invariant-loop-i : goal.invariant-loop-i
invariant-loop-i g l = Holds node_form (store l.nf l.nw) (length l.initial.nw)
    × (store l.nf l.nw ≡ run nodes (gather (λ i. column_hits l.block (g.P.Pass.changed_by l.pass l.at.cell_width (axes l.at.dir) l.load) l.at.corner (step_at i)) l.i) (store l.initial.nf l.initial.nw))
