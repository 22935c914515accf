-- A stencil's shifts by the steps along its axes. Assumes nothing.
use Rattle.std.proofs.Common.{◌≡◌, ℕ, zero, suc, ◌+◌, ◌*◌, ◌<◌, [], ◌∷◌, arith}
use Rattle.packing.specs.Ids.{dim2}
use Rattle.packing.specs.Values.{shifts}
use Rattle.cells.specs.Stencil.{shift_at, step_at}

-- the j-th of the i-th column
pub by_steps : (i j : ℕ) → i < 3 → j < 3 → shift_at dim2 (i * 3 + j) ≡ step_at i ∷ step_at j ∷ []
by_steps zero zero l u = rw shifts
by_steps zero (suc zero) l u = rw shifts
by_steps zero (suc (suc zero)) l u = rw shifts
by_steps (suc zero) zero l u = rw shifts
by_steps (suc zero) (suc zero) l u = rw shifts
by_steps (suc zero) (suc (suc zero)) l u = rw shifts
by_steps (suc (suc zero)) zero l u = rw shifts
by_steps (suc (suc zero)) (suc zero) l u = rw shifts
by_steps (suc (suc zero)) (suc (suc zero)) l u = rw shifts
by_steps (suc (suc (suc i))) j l u = absurd (omega (arith, l))
by_steps zero (suc (suc (suc j))) l u = absurd (omega (arith, u))
by_steps (suc zero) (suc (suc (suc j))) l u = absurd (omega (arith, u))
by_steps (suc (suc zero)) (suc (suc (suc j))) l u = absurd (omega (arith, u))
