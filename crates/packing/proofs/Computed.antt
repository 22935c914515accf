-- What antt computes of the axes, once: where their digits stand.
-- Assumes nothing.
use Rattle.std.proofs.Common.{◌≡◌, ℕ, zero, suc, ◌+◌, ◌*◌, ◌<◌, ◌⊎◌, ⊎_elim, sym, refl, subst, arith}
use Rattle.packing.specs.Mask.{place, coord, count}
use Rattle.packing.specs.Ids.{axis, digits_by, dim2, dim3}
use Rattle.packing.proofs.Linear.{run, alike}
use Rattle.packing.proofs.Ladders.{every}
use Rattle.packing.proofs.Placing.{Layout, tested}
use Rattle.packing.proofs.Fields.{InRow}

-- the axes of the plane, and those of the solid
plane : (k : ℕ) → k < 2 → Layout (every 2) (6 + 2 * k) (12 + k) 2
unfolding run alike place coord digits_by axis count
plane zero h = tested tt tt tt
plane (suc zero) h = tested tt tt tt
plane (suc (suc k)) h = absurd (omega arith)

solid : (k : ℕ) → k < 3 → Layout (every 3) (6 + 2 * k) (12 + k) 3
unfolding run alike place coord digits_by axis count
solid zero h = tested tt tt tt
solid (suc zero) h = tested tt tt tt
solid (suc (suc zero)) h = tested tt tt tt
solid (suc (suc (suc k))) h = absurd (omega arith)

pub layout : {axes : ℕ} → (axes ≡ 2) ⊎ (axes ≡ 3) → (k : ℕ) → k < axes → Layout (every axes) (6 + 2 * k) (12 + k) axes
layout =
    ⊎_elim (λ e. subst (λ (n : ℕ). (k : ℕ) → k < n → Layout (every n) (6 + 2 * k) (12 + k) n) (sym e) plane)
    (λ e. subst (λ (n : ℕ). (k : ℕ) → k < n → Layout (every n) (6 + 2 * k) (12 + k) n) (sym e) solid)

-- the lowest two digits of the axes stand side by side, from digit 6 on
pub rows : InRow 6 dim2.sum_axes × InRow 6 dim3.sum_axes
unfolding dim2 dim3
rows = ((refl, (refl, tt)), (refl, (refl, (refl, tt))))
