-- `scatter::particle_to_grid::scatter_colors` meets its contract: the colours before this one are scattered.
use Rattle.std.proofs.Common.{◌≡◌, ◌*◌, length}
use Rattle.laws.specs.Store.{store, Holds}
use Rattle.laws.specs.Hits.{run, gather}
use Rattle.grid.specs.Nodes.{node_form, nodes, region_cells}
use Rattle.scatter.specs.Scatter.{colour_hits}
use Rattle.scatter.proofs.particle_to_grid.scatter_colors.Given as goal

abbrev pub invariant-loop-color : goal.invariant-loop-color
invariant-loop-color g l = Holds node_form (store l.nf l.nw) (length l.s.ids.now * region_cells)
    × (store l.nf l.nw ≡ run nodes (gather (colour_hits l.s.cell_width (g.P.Pass.changed_for l.s.pass l.s.cell_width) l.s.ids.now l.s.ranges.now (store l.s.pf.now l.s.pw.now)) l.color) (store l.initial.nf l.initial.nw))
