-- The definitions on document 01's values: where each bit goes, how many bits each axis keeps, and packing's rows of "Values to prove together".
-- Assumes nothing.
use Rattle.std.specs.Prelude.{◌≡◌, ℕ, zero, suc, ◌+◌, ◌-◌, ◌*◌, ◌^◌, Bool, true, not, ◌&&◌, T, [], ◌∷◌, map, length, negsuc, ◌==◌, ◌≢◌, refl}
use Rattle.std.proofs.Common.{arith}
use Rattle.packing.specs.Mask.{num, count, coord, place, coords, packed, sums, sum_of, whole}
use Rattle.packing.specs.Neighbours.{IsCell, IsRegion, block_count, near}
use Rattle.packing.specs.Ids.{axis, dim2, dim3, packed_id, complement, sum, region, packed_shifts, packed_region_shifts}

-- ---- "x bits 0 and 1 go to bits 6 and 7 ..; x bit k (2 to 27) goes to bit 12 + 2(k-2), y bit k one higher"

unfoldable pub goes_to : ℕ → ℕ → ℕ → ℕ → ℕ
goes_to lo hi step zero = lo
goes_to lo hi step (suc zero) = lo + 1
goes_to lo hi step (suc (suc k)) = hi + step * k

-- each of the k lowest bits of a coordinate goes there
unfoldable pub go : ℕ → ℕ → ℕ → ℕ → Bool
unfolding goes_to place axis
go lo hi step zero = true
go lo hi step (suc k) = place (axis lo hi step) (2 ^ k) == 2 ^ goes_to lo hi step k && go lo hi step k

pub bits2 : T (go 6 12 2 28) × T (go 8 13 2 28)
unfolding go
bits2 = (tt, tt)

pub bits3 : T (go 6 12 3 20) × T (go 8 13 3 19) × T (go 10 14 3 19)
unfolding go
bits3 = (tt, tt, tt)

-- "y and z keep 19 bits. x keeps 20"; in sums 19 each
pub kept : (map count dim2.axes ≡ 28 ∷ 28 ∷ []) × (map count dim2.sum_axes ≡ 28 ∷ 28 ∷ [])
    × (map count dim3.axes ≡ 20 ∷ 19 ∷ 19 ∷ []) × (map count dim3.sum_axes ≡ 19 ∷ 19 ∷ 19 ∷ [])
unfolding count dim2 dim3
kept = (refl, refl, refl, refl)

-- "Bits 0 to 5, 10 and 11 are stray"; in 3D "bits 0 to 5, and in sums bit 63"
pub stray : (whole dim2.axes ≡ 2 ^ 64 - 2 ^ 12 + (2 ^ 10 - 2 ^ 6)) × (whole dim3.axes ≡ 2 ^ 64 - 2 ^ 6) × (whole dim3.sum_axes ≡ 2 ^ 63 - 2 ^ 6)
unfolding whole num dim2 dim3
stray = (refl, refl, refl)

-- 2^26 blocks on each axis, 2^17 in 3D
pub blocks : (map block_count dim2.sum_axes ≡ 2 ^ 26 ∷ 2 ^ 26 ∷ []) × (map block_count dim3.sum_axes ≡ 2 ^ 17 ∷ 2 ^ 17 ∷ 2 ^ 17 ∷ [])
unfolding count dim2 dim3
blocks = (refl, refl)

-- 9 and 27 cells in a stencil, 3 and 7 neighbours of a region
pub counts : (length (packed_shifts dim2) ≡ 9) × (length (packed_shifts dim3) ≡ 27) × (length (packed_region_shifts dim2) ≡ 3) × (length (packed_region_shifts dim3) ≡ 7)
unfolding packed_shifts packed_region_shifts dim2 dim3
counts = (refl, refl, refl, refl)

-- "shifts (2,2) (2,0) (2,1) (0,2) (0,0) (0,1) (1,2) (1,0) (1,1), in that order"
pub shifts : dim2.shifts
    ≡ (2 ∷ 2 ∷ []) ∷ (2 ∷ 0 ∷ []) ∷ (2 ∷ 1 ∷ []) ∷ (0 ∷ 2 ∷ []) ∷ (0 ∷ 0 ∷ []) ∷ (0 ∷ 1 ∷ []) ∷ (1 ∷ 2 ∷ []) ∷ (1 ∷ 0 ∷ []) ∷ (1 ∷ 1 ∷ []) ∷ []
unfolding dim2
shifts = refl

-- of eight blocks, the fourth and the fifth are near, and so are the first and the last; the third and the fifth are not
pub nearby : T (near 8 3 4) × T (near 8 0 7) × T (not (near 8 2 4))
unfolding near
nearby = (tt, tt, tt)

-- (2,2) is a cell and no region, (4,4) is a region; an id with bit 0 set is no cell, nor in 3D one with bit 63 set
pub cells : IsCell dim2 640 × (region 640 ≢ 640) × IsRegion dim2 12288 × (IsCell dim2 641 → ⊥) × IsRegion dim3 28672 × (IsCell dim3 (2 ^ 63) → ⊥)
unfolding whole num dim2 dim3 region
cells =
    (refl, λ e. omega (arith, e), record { cell = refl; whole = refl }, λ e. omega (arith, e), record { cell = refl; whole = refl }, λ e. omega (arith, e))

-- ---- the rows of the table

pub record Values : Type 0 where
  pub two : packed_id dim2 (2 ∷ 2 ∷ []) ≡ 640
  pub five : packed_id dim2 (5 ∷ 5 ∷ []) ≡ 12608
  pub negative : packed_id dim2 (complement (negsuc 0) ∷ complement (negsuc 0) ∷ []) ≡ 18446744073709548480
  pub plus : sum dim2 18446744073709548480 12608 ≡ 12288
  pub wraps : packed_id dim2 (2 ^ 28 ∷ 0 ∷ []) ≡ 0
  pub four : packed_id dim3 (4 ∷ 4 ∷ 4 ∷ []) ≡ 28672
  pub negative3 : packed_id dim3 (complement (negsuc 0) ∷ complement (negsuc 0) ∷ complement (negsuc 0) ∷ []) ≡ 18446744073709551552
  pub plus3 : sum dim3 18446744073709551552 0 ≡ 9223372036854775744

pub values : Values
unfolding packed_id packed place complement sum sum_of sums coords coord count dim2 dim3
values = record { two = refl; five = refl; negative = refl; plus = refl; wraps = refl; four = refl; negative3 = refl; plus3 = refl }
