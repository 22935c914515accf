-- `scatter::particle_to_grid::scatter_particles` meets its contract: the first k of the particles are scattered.
use Rattle.std.proofs.Common.{◌≡◌, ◌+◌, length}
use Rattle.laws.specs.Store.{store, Holds}
use Rattle.laws.specs.Hits.{run, gather}
use Rattle.grid.specs.Nodes.{node_form, nodes}
use Rattle.particles.specs.Blocks.{corner_of}
use Rattle.particles.specs.Particles.{particle_at}
use Rattle.scatter.specs.Scatter.{block_hits}
use Rattle.scatter.proofs.particle_to_grid.scatter_particles.Given as goal

abbrev pub invariant-loop-k : goal.invariant-loop-k
invariant-loop-k g l = Holds node_form (store l.nf l.nw) (length l.initial.nw)
    × (store l.nf l.nw ≡ run nodes (gather (λ j. let q = particle_at (store l.s.pf.now l.s.pw.now) (l.start + j) in block_hits l.block (g.P.Pass.changed_for l.s.pass l.s.cell_width q) (corner_of l.s.cell_width q)) l.k) (store l.initial.nf l.initial.nw))
