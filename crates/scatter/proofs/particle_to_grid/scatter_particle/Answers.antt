-- `scatter::particle_to_grid::scatter_particle` meets its contract: the columns of the stencil below i are hit.
use Rattle.std.proofs.Common.{◌≡◌, ap₂, List, ◌∙◌, arith}
use Rattle.std.specs.Float.Ieee.{Float}
use Rattle.numeric.specs.Axes.{axes}
use Rattle.laws.proofs.Hits.{run_none, run_more}
use Rattle.cells.specs.Stencil.{step_at}
use Rattle.grid.specs.Nodes.{nodes}
use Rattle.scatter.specs.Scatter.{column_hits, block_hits}
use Rattle.scatter.proofs.Hitting.{still_held}
use Rattle.scatter.proofs.particle_to_grid.scatter_particle.Goals as goal

pub loop-i-init : goal.loop-i-init
loop-i-init g c = (c.requires.2, run_none nodes _ _)

pub loop-i-preserved : goal.loop-i-preserved
loop-i-preserved g c =
    let a = c.args in
    let l = c.loop-i.invariant in (
      still_held l.0 (omega (arith, c.hit_column.auto)) (omega (arith, c.hit_column.auto)),
      run_more nodes (λ i. column_hits a.block.now (g.P.Pass.changed_by a.pass c.spot_of-at.result.cell_width (axes c.spot_of-at.result.dir) c.load-load.result) c.spot_of-at.result.corner (step_at i)) _ _ l.1
          (rw c.step.ensures.0 at c.hit_column.ensures),
    )

pub returns : goal.returns
unfolding block_hits
returns g c =
    let a = c.args in
    let e : c.loop-i.i ≡ 3 = omega arith in
    let at = c.spot_of-at in
    let change : g.P.Pass.changed_by a.pass at.result.cell_width (axes at.result.dir) c.load-load.result ≡ g.P.Pass.changed_for a.pass a.cell_width a.q
    = ap₂ (λ (h : Float) (dir : List Float). g.P.Pass.changed_by a.pass h dir c.load-load.result) at.ensures.width at.ensures.way ∙ c.load-load.ensures in
    c.loop-i.invariant.1 ∙ rw (e, change, at.ensures.start)
