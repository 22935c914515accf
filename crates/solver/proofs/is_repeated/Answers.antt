-- `solver::is_repeated` meets its contract: the entry stands at no place from k to i.
use Rattle.std.proofs.Common.{◌≡◌, sym, ◌∙◌, ℕ, zero, suc, ◌-◌, ◌<◌, List, eqb, ne_eqb, eq-eqb, ◌||◌, arith}
use Rattle.solver.specs.Order.{place_at, repeated}
use Rattle.solver.proofs.is_repeated.Goals as goal

-- the last of the places, and those before it
step : (order : List ℕ) (i n : ℕ) → 0 < n → repeated order i n ≡ (eqb (place_at order (n - 1)) (place_at order i) || repeated order i (n - 1))
unfolding repeated
step order i zero h = absurd (omega (arith, h))
step order i (suc n) h = let e : suc n - 1 ≡ n = omega arith in rw e

pub returns-then-order-k : goal.returns-then-order-k
returns-then-order-k c = sym (c.loop-k.invariant ∙ step _ _ _ c.loop-k-test.true ∙ rw (eq-eqb _ _ c.if-order-k.true))

pub loop-k-preserved : goal.loop-k-preserved
loop-k-preserved c = c.loop-k.invariant ∙ step _ _ _ c.loop-k-test.true ∙ rw (ne_eqb _ _ c.if-order-k.false)

pub returns : goal.returns
unfolding repeated
returns c = let e : c.loop-k.k ≡ 0 = omega arith in sym (c.loop-k.invariant ∙ rw e)
