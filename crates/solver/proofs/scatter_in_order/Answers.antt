-- `solver::scatter_in_order` meets its contract.
use Rattle.std.proofs.Common.{sym, ◌∙◌, length}
use Rattle.numeric.specs.Axes.{axes}
use Rattle.laws.specs.Store.{store}
use Rattle.solver.proofs.Ordering.{same_bits}
use Rattle.solver.proofs.Turning.{turned, turn_ready}
use Rattle.solver.proofs.scatter_in_order.Goals as goal

pub scatter_regions-requires : goal.scatter_regions-requires
scatter_regions-requires c =
    let g = c.args in
    turn_ready g.order.now g.cell_width g.dt (axes g.gravity) g.regions g.ids.now g.ranges.now g.particles (store g.pf.now g.pw.now) g.nf.now g.nw.now
    (sym c.check_in_order.ensures ∙ c.in_ok-check_in_order.was)

pub returns : goal.returns
returns c =
    let g = c.args in
    let order = g.order.now in
    let ids = g.ids.now in
    let ranges = g.ranges.now in
    let particles = store g.pf.now g.pw.now in
    let nf = g.nf.now in
    let nw = g.nw.now in
    let done = sym c.check_in_order.ensures ∙ c.in_ok-check_in_order.was in
    let t = turned order g.cell_width g.dt (axes g.gravity) g.regions ids ranges g.particles particles (length nf) (length nw) done in
    (sym done, c.scatter_regions.ensures ∙ same_bits order g.cell_width g.dt (axes g.gravity) g.regions ids ranges g.particles particles (store nf nw) t.accepted t.as_long t.in_turn_lem)
