-- `scatter::particle_to_grid::scatter_colors` meets its contract: the colours before this one are scattered.
use Rattle.std.proofs.Common.{◌≡◌, ◌∙◌, arith}
use Rattle.laws.specs.Store.{store}
use Rattle.laws.proofs.Hits.{run_none, run_more}
use Rattle.grid.specs.Nodes.{nodes}
use Rattle.scatter.specs.Scatter.{colours, colour_hits, scatter_hits}
use Rattle.scatter.proofs.Hitting.{still_held}
use Rattle.scatter.proofs.particle_to_grid.scatter_colors.Goals as goal

pub loop-color-init : goal.loop-color-init
loop-color-init g c = (c.requires.nodes_held, run_none nodes _ _)

pub loop-color-preserved : goal.loop-color-preserved
loop-color-preserved g c =
    let s = c.args.s.now in
    let l = c.loop-color.invariant in (
      still_held l.0 (omega (arith, c.scatter_color.auto)) (omega (arith, c.scatter_color.auto)),
      run_more nodes (colour_hits s.cell_width (g.P.Pass.changed_for s.pass s.cell_width) s.ids.now s.ranges.now (store s.pf.now s.pw.now)) _ _ l.1 c.scatter_color.ensures,
    )

pub returns : goal.returns
unfolding scatter_hits
returns g c = let e : c.loop-color.color ≡ colours = omega arith in c.loop-color.invariant.1 ∙ rw e
