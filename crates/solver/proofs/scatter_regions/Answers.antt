-- `solver::scatter_regions` meets its contract: the regions before place-index of the order are scattered.
use Rattle.std.proofs.Common.{◌≡◌, refl, ◌∙◌, length, arith}
use Rattle.numeric.specs.Axes.{axes}
use Rattle.laws.specs.Store.{store}
use Rattle.particles.proofs.Staging.{still_ready}
use Rattle.solver.specs.Order.{in_order}
use Rattle.solver.proofs.Turning.{one_more}
use Rattle.solver.proofs.scatter_regions.Goals as goal

pub loop-place-init : goal.loop-place-init
unfolding in_order
loop-place-init c = (c.requires.1.nodes_held, refl)

pub scatter_at-requires : goal.scatter_at-requires
scatter_at-requires c =
    (c.requires.0 c.loop-place.place-index c.loop-place-test.true, still_ready _ _ _ _ _ _ c.requires.1 c.loop-place.invariant.0)

pub loop-place-preserved : goal.loop-place-preserved
loop-place-preserved c =
    let g = c.args.given in
    let l = c.loop-place in
    let kept = c.scatter_at.auto in (
      record { floats_long = omega (arith, l.invariant.0.floats_long, kept); words_long = omega (arith, l.invariant.0.words_long, kept) },
      one_more g.cell_width g.dt (axes g.gravity) g.ids.now g.ranges.now (store g.pf.now g.pw.now) c.args.order.now l.place-index _ _ _ l.invariant.1 c.scatter_at.ensures,
    )

pub returns : goal.returns
returns c = let e : c.loop-place.place-index ≡ length c.args.order.now = omega arith in c.loop-place.invariant.1 ∙ rw e
