-- `update::grid_update::update_cell` meets its contract: the node is read, updated and written back.
use Rattle.std.proofs.Common.{◌∙◌}
use Rattle.laws.specs.Store.{store}
use Rattle.grid.proofs.Changing.{one_hit}
use Rattle.update.specs.Update.{updated_node}
use Rattle.update.proofs.grid_update.update_cell.Goals as goal

pub returns : goal.returns
unfolding updated_node
returns c =
    let u = c.args.u.now in
    c.write_node.ensures
    ∙ rw (c.update_node-n.ensures, c.read_node.ensures, c.cell_center-cell_pos.ensures, c.cell_of_region-cell_id.ensures)
    (one_hit _ (updated_node u.handling u.cell_width u.dt u.cf.now (store u.jf.now u.jw.now) u.simulation_dofs u.ids.now u.colliders c.args.r c.args.c) _)
