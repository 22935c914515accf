-- `scatter::particle_to_grid::scatter_particles` meets its contract: the first k of the particles are scattered.
use Rattle.std.proofs.Common.{◌≡◌, ◌+◌, ◌∙◌, arith}
use Rattle.laws.specs.Store.{store}
use Rattle.laws.proofs.Hits.{run_none, run_more}
use Rattle.grid.specs.Nodes.{nodes}
use Rattle.particles.specs.Blocks.{corner_of}
use Rattle.particles.specs.Particles.{particle_at}
use Rattle.scatter.specs.Scatter.{block_hits, near_hits}
use Rattle.scatter.proofs.Hitting.{still_held}
use Rattle.scatter.proofs.particle_to_grid.scatter_particles.Goals as goal

pub loop-k-init : goal.loop-k-init
loop-k-init g c = (c.requires.3, run_none nodes _ _)

pub loop-k-preserved : goal.loop-k-preserved
loop-k-preserved g c =
    let a = c.args in
    let s = a.s.now in
    let l = c.loop-k.invariant in (
      still_held l.0 (omega (arith, c.scatter_particle.auto)) (omega (arith, c.scatter_particle.auto)),
      run_more nodes (λ j. let q = particle_at (store s.pf.now s.pw.now) (a.start + j) in block_hits a.block.now (g.P.Pass.changed_for s.pass s.cell_width q) (corner_of s.cell_width q)) _ _ l.1
          (rw c.read_particle-q.ensures at c.scatter_particle.ensures),
    )

pub returns : goal.returns
unfolding near_hits
returns g c = let e : c.loop-k.k ≡ c.args.count = omega arith in c.loop-k.invariant.1 ∙ rw e
