-- `scatter::particle_to_grid::hit` meets its contract: the node at the place is read, changed and written back.
use Rattle.std.proofs.Common.{sym, ◌∙◌}
use Rattle.scatter.proofs.Hitting.{there, nowhere}
use Rattle.scatter.proofs.particle_to_grid.hit.Goals as goal

pub returns : goal.returns
returns g c =
    c.write_node.ensures
    ∙ rw (c.unload.ensures, c.read_node-n.ensures)
    (there _ _ _ _ (sym c.found_at.ensures ∙ c.in-Some.is))

pub returns-in_default : goal.returns-in_default
returns-in_default g c = nowhere _ _ _ (sym c.found_at.ensures ∙ c.in_default.is)
