-- `gather::grid_to_particle::finish` meets its contract, a part at a time.
use Rattle.std.proofs.Common.{◌≡◌, ◌∙◌, ◌||◌, ne_eqb}
use Rattle.gather.specs.Transfer.{on, settled, finished}
use Rattle.gather.proofs.grid_to_particle.finish.Goals.{then-q-ne0, else-q-ne0}
use Rattle.gather.proofs.grid_to_particle.finish.Goals as goal

pub returns : goal.returns
unfolding finished settled
returns c =
    let still : c.if-q-ne0.replaced ≡ (on c.args.q.is_static || c.has_failed-fails.result) =
    elim c.if-q-ne0.branch [
      | then-q-ne0 w ↦ w.replaced-is ∙ rw (ne_eqb _ 0 w.if-q-ne0.true)
      | else-q-ne0 w ↦ w.replaced-is ∙ rw w.if-q-ne0.false
    ] in
    rw (
      ← c.has_failed-fails.ensures,
      ← c.max-psi_pos.ensures,
      ← c.stilled.ensures,
      ← c.kept_phase.ensures,
      ← c.replaced-2.ensures,
      ← c.failed_flag.ensures,
      ← still,
      ← c.replaced.ensures,
    )
