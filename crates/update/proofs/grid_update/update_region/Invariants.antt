-- `update::grid_update::update_region` meets its contract: c nodes are updated.
use Rattle.std.specs.Prelude.{◌≡◌}
use Rattle.laws.specs.Store.{store}
use Rattle.laws.specs.Hits.{run, gather}
use Rattle.grid.specs.Nodes.{nodes}
use Rattle.update.specs.Update.{updated_cell}
use Rattle.update.proofs.grid_update.update_region.Given as goal

abbrev pub invariant-loop-c : goal.invariant-loop-c
invariant-loop-c l =
    store l.nf l.nw ≡ run nodes (gather (updated_cell l.u.handling l.u.cell_width l.u.dt l.u.cf.now (store l.u.jf.now l.u.jw.now) l.u.simulation_dofs l.u.ids.now l.u.colliders l.r) l.c) (store l.initial.nf l.initial.nw)
