-- `scatter::particle_to_grid::scatter_color` meets its contract: the regions before this place that have the colour are scattered.
use Rattle.std.proofs.Common.{◌≡◌, length, ◌∙◌, arith}
use Rattle.laws.specs.Store.{store}
use Rattle.laws.proofs.Hits.{run_none, run_more}
use Rattle.grid.specs.Nodes.{nodes}
use Rattle.scatter.specs.Scatter.{coloured_hits, colour_hits}
use Rattle.scatter.proofs.Hitting.{still_held}
use Rattle.scatter.proofs.particle_to_grid.scatter_color.Goals as goal

pub loop-place-init : goal.loop-place-init
loop-place-init g c = (c.requires.nodes_held, run_none nodes _ _)

pub loop-place-preserved : goal.loop-place-preserved
loop-place-preserved g c =
    let s = c.args.s.now in
    let l = c.loop-place.invariant in (
      still_held l.0 (omega (arith, c.scatter_colored.auto)) (omega (arith, c.scatter_colored.auto)),
      run_more nodes (coloured_hits s.cell_width (g.P.Pass.changed_for s.pass s.cell_width) s.ids.now s.ranges.now (store s.pf.now s.pw.now) c.args.color) _ _ l.1 c.scatter_colored.ensures,
    )

pub returns : goal.returns
unfolding colour_hits
returns g c = let e : c.loop-place.place ≡ length c.args.s.now.ids.now = omega arith in c.loop-place.invariant.1 ∙ rw e
