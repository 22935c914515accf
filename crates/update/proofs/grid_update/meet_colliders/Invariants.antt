-- `update::grid_update::meet_colliders` meets its contract: the node has met the first j colliders.
use Rattle.std.specs.Prelude.{◌≡◌, [], ◌∷◌}
use Rattle.laws.specs.Store.{store}
use Rattle.update.specs.Update.{after_colliders}
use Rattle.update.proofs.grid_update.meet_colliders.Given as goal

abbrev pub invariant-loop-j : goal.invariant-loop-j
invariant-loop-j l = l.cell ≡ after_colliders l.u.handling l.u.cell_width l.u.dt l.u.cf.now (store l.u.jf.now l.u.jw.now) (l.cell_pos.x ∷ l.cell_pos.y ∷ []) l.p l.j l.initial.cell
