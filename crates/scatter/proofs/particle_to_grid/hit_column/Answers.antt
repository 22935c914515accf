-- `scatter::particle_to_grid::hit_column` meets its contract: the cells of the column below j are hit.
use Rattle.std.proofs.Common.{◌≡◌, ◌∙◌, arith}
use Rattle.numeric.specs.Axes.{axes}
use Rattle.laws.proofs.Hits.{run_none, run_more}
use Rattle.cells.specs.Stencil.{step_at}
use Rattle.grid.specs.Nodes.{nodes}
use Rattle.scatter.specs.Scatter.{cell_hits, column_hits}
use Rattle.scatter.proofs.Hitting.{still_held}
use Rattle.scatter.proofs.particle_to_grid.hit_column.Goals as goal

pub loop-j-init : goal.loop-j-init
loop-j-init g c = (c.requires.2, run_none nodes _ _)

pub loop-j-preserved : goal.loop-j-preserved
unfolding cell_hits
loop-j-preserved g c =
    let a = c.args in
    let l = c.loop-j.invariant in (
      still_held l.0 (omega (arith, c.hit.auto)) (omega (arith, c.hit.auto)),
      run_more nodes (λ j. cell_hits a.block.now (g.P.Pass.changed_by a.pass a.at.now.cell_width (axes a.at.now.dir) a.load) a.at.now.corner a.x (step_at j)) _ _ l.1
          (rw c.step-y.ensures.0 at c.hit.ensures),
    )

pub returns : goal.returns
unfolding column_hits
returns g c = let e : c.loop-j.j ≡ 3 = omega arith in c.loop-j.invariant.1 ∙ rw e
