-- `gather::grid_to_particle::has_failed` meets its contract: in each branch.
use Rattle.std.proofs.Common.{inl, inr, sym, ◌∙◌, true≢false, ne_eqb}
use Rattle.gather.specs.Transfer.{fails}
use Rattle.gather.proofs.grid_to_particle.has_failed.Goals.{then-told, else-told}
use Rattle.gather.proofs.grid_to_particle.has_failed.Goals as goal

pub returns-then-q-ne0 : goal.returns-then-q-ne0
unfolding fails
returns-then-q-ne0 c =
    elim c.if-told.branch [
      | then-told w ↦ w.t-4-is ∙ rw w.if-told.true
      | else-told w ↦ w.t-4-is ∙ elim c.if-q-ne0.either [ inl e ↦ absurd (true≢false (sym e ∙ w.if-told.false)) | inr e ↦ rw (e.0, ne_eqb _ 0 e.1) ]
    ]

pub returns-then-q-eq0 : goal.returns-then-q-eq0
unfolding fails
returns-then-q-eq0 c = let e = c.if-q-ne0.false in rw (e.0, e.1, c.if-q-eq0.true, ← c.abs.ensures)

pub returns-else-q-eq0 : goal.returns-else-q-eq0
unfolding fails
returns-else-q-eq0 c = let e = c.if-q-ne0.false in rw (e.0, e.1, ne_eqb _ 0 c.if-q-eq0.false)
