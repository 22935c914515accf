-- `solver::is_out_of_turn` meets its contract: at each part of the test.
use Rattle.std.proofs.Common.{◌≡◌, refl, sym, ◌∙◌, ℕ, zero, suc, ◌-◌, not, List, length, ltb, arith}
use Rattle.std.proofs.Math.Bool.{or-true}
use Rattle.std.proofs.lemmas.Bool.{lt-ltb, le-ltb, le-leb, false≢true}
use Rattle.solver.specs.Order.{place_at, colour_at, goes_back, out_of_turn}
use Rattle.solver.proofs.is_out_of_turn.Goals as goal
use Rattle.solver.proofs.is_out_of_turn.Goals.{then-ids-place, else-ids-place}

-- behind the first entry there is one ahead
after : (ids order : List ℕ) (i : ℕ) → (i ≡ 0 → ⊥) → goes_back ids order i ≡ ltb (colour_at ids (place_at order i)) (colour_at ids (place_at order (i - 1)))
after ids order zero n = absurd (n refl)
after ids order (suc i) n = let e : suc i - 1 ≡ i = omega arith in rw e

pub returns-then-is_repeated : goal.returns-then-is_repeated
unfolding out_of_turn
returns-then-is_repeated c =
    let g = c.args in
    elim c.if-ids-place.branch [
      | then-ids-place w ↦ rw (c.if-is_repeated.true, le-ltb (place_at g.order.now g.i) (length g.ids.now) (omega arith))
      | else-ids-place w ↦ rw (c.if-is_repeated.true, sym w.is_repeated.ensures ∙ sym w.value-is ∙ c.if-is_repeated.true) (sym (or-true (not (ltb (place_at g.order.now g.i) (length g.ids.now)))))
    ]

pub returns-then-i-ne0 : goal.returns-then-i-ne0
unfolding out_of_turn
returns-then-i-ne0 c =
    let g = c.args in
    elim c.if-ids-place.branch [
      | then-ids-place w ↦ absurd (false≢true (sym c.if-is_repeated.false ∙ w.value-is ∙ le-leb _ _ w.if-ids-place.true))
      | else-ids-place w ↦
          rw (
            lt-ltb _ _ w.if-ids-place.false,
            sym w.is_repeated.ensures ∙ sym w.value-is ∙ c.if-is_repeated.false,
            after g.ids.now g.order.now g.i c.if-i-ne0.true,
            c.color_at.ensures,
            c.color_at-then-i-ne0.ensures,
          )
    ]

pub returns-else-i-ne0 : goal.returns-else-i-ne0
unfolding out_of_turn
returns-else-i-ne0 c =
    elim c.if-ids-place.branch [
      | then-ids-place w ↦ absurd (false≢true (sym c.if-is_repeated.false ∙ w.value-is ∙ le-leb _ _ w.if-ids-place.true))
      | else-ids-place w ↦
          rw (
            lt-ltb _ _ w.if-ids-place.false,
            sym w.is_repeated.ensures ∙ sym w.value-is ∙ c.if-is_repeated.false,
            c.if-i-ne0.false,
          )
    ]
