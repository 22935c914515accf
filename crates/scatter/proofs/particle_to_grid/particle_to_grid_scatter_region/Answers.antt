-- `scatter::particle_to_grid::particle_to_grid_scatter_region` meets its contract.
use Rattle.std.proofs.Common.{arith}
use Rattle.numeric.specs.Axes.{axes}
use Rattle.laws.specs.Store.{store}
use Rattle.scatter.proofs.Checking.{region_ready}
use Rattle.scatter.proofs.particle_to_grid.particle_to_grid_scatter_region.Goals as goal

pub scatter_at-requires : goal.scatter_at-requires
scatter_at-requires c =
    let g = c.args in
    let r =
    region_ready g.place c.check_place.result c.check_scatter.result g.cell_width g.dt (axes g.gravity) g.regions g.ids.now g.ranges.now g.particles
    (store g.pf.now g.pw.now) g.nf.now g.nw.now c.check_place.ensures c.check_scatter.ensures c.in_ok-check_scatter.was in
    (omega (arith, r.0), r.1.ready)
