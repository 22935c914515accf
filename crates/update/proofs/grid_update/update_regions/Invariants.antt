-- `update::grid_update::update_regions` meets its contract: r regions are updated.
use Rattle.std.specs.Prelude.{◌≡◌}
use Rattle.laws.specs.Store.{store}
use Rattle.laws.specs.Hits.{run, gather}
use Rattle.grid.specs.Nodes.{nodes}
use Rattle.update.specs.Update.{region_updates}
use Rattle.update.proofs.grid_update.update_regions.Given as goal

abbrev pub invariant-loop-r : goal.invariant-loop-r
invariant-loop-r l =
    store l.nf l.nw ≡ run nodes (gather (region_updates l.u.handling l.u.cell_width l.u.dt l.u.cf.now (store l.u.jf.now l.u.jw.now) l.u.simulation_dofs l.u.ids.now l.u.colliders) l.r) (store l.initial.nf l.initial.nw)
