-- The fields of an id below and above its digit 12: the number of a cell in its region, and the colour of a region.
-- Assumes nothing.
use Rattle.std.proofs.Common.{◌≡◌, ℕ, zero, suc, ◌+◌, ◌*◌, ◌/◌, ◌%◌, ◌^◌, ◌<◌, ◌≤◌, true, false, List, [], ◌∷◌, ◌++◌, length, drop, replicate, sym, ap, ◌∙◌, ap₂, zero-le, mod-lt, mul_assoc, mul_comm, add-mul, add_comm, pow-suc, zero-mul, one-add, arith, lit<, lt_of_lt_of_le, mod-eq_of_lt, pow-add, shl_lt, shr-shr}
use Rattle.std.proofs.Math.Nat.{mod-one, pow-le-pow_right}
use Rattle.std.proofs.Math.Arith.{mod-mul}
use Rattle.std.specs.Int.Bits.{bit_or, or_shifted_r}
use Rattle.packing.specs.Mask.{Mask, coord, place, coords, packed}
use Rattle.packing.specs.Ids.{Dim, sum, region, from_fours, to_fours, cell_of}
use Rattle.packing.proofs.Linear.{place_zero}

-- ---- two digits of each axis, one axis after the other

-- a mask whose two lowest digits are lo and the next
abbrev from : ℕ → Mask → Mask
from lo m = replicate lo false ++ true ∷ true ∷ m

read_from_lem : (lo : ℕ) (m : Mask) (i : ℕ) → coord (from lo m) i % 4 ≡ i / 2 ^ lo % 4
unfolding coord
read_from_lem zero m i = omega arith
read_from_lem (suc lo) m i = read_from_lem lo m (i / 2) ∙ ap (λ (x : ℕ). x % 4) (shr-shr i 1 lo ∙ ap (λ (x : ℕ). i / 2 ^ x) (one-add lo))

place_from : (lo : ℕ) (m : Mask) (c : ℕ) → c < 4 → place (from lo m) c ≡ c * 2 ^ lo
unfolding place
place_from zero m c h =
    let z : c / 2 / 2 ≡ 0 = omega arith in
    let e : place m (c / 2 / 2) ≡ 0 = ap (place m) z ∙ place_zero m in
    omega arith
place_from (suc lo) m c h =
    ap (λ (x : ℕ). x * 2) (place_from lo m c h) ∙ mul_assoc c (2 ^ lo) 2 ∙ ap (λ (x : ℕ). c * x) (sym (pow-suc 2 lo))

-- masks that start so, each two digits after the one before
abbrev pub InRow : ℕ → List Mask → Type 0
InRow lo [] = Unit {0}
InRow lo (m ∷ ms) = (from lo (drop (lo + 2) m) ≡ m) × InRow (lo + 2) ms

-- a number by its lowest digit to the base 4
base_4 : (n k : ℕ) → n % 4 ^ suc k ≡ (n / 4 % 4 ^ k) * 4 + n % 4
base_4 n k = ap (λ (x : ℕ). n % x) (pow-suc 4 k) ∙ mod-mul n (pow-le-pow_right (lit< tt) zero-le) (lit< tt)

pub read_fours : (lo : ℕ) (ms : List Mask) → InRow lo ms → (i : ℕ) → from_fours (coords ms i) ≡ i / 2 ^ lo % 4 ^ length ms
unfolding from_fours coords
read_fours lo [] r i = sym (mod-one (i / 2 ^ lo))
read_fours lo (m ∷ ms) r i =
    let k : ℕ = length ms in
    let a : coord m i % 4 ≡ i / 2 ^ lo % 4 = rw r.0 at (read_from_lem lo (drop (lo + 2) m) i) in
    let b : from_fours (coords ms i) ≡ i / 2 ^ lo / 4 % 4 ^ k =
    read_fours (lo + 2) ms r.1 i ∙ ap (λ (x : ℕ). x % 4 ^ k) (sym (shr-shr i lo 2)) in
    omega (arith, base_4 (i / 2 ^ lo) k)

pub packed_fours : (lo : ℕ) (ms : List Mask) → InRow lo ms → (n : ℕ) → packed ms (to_fours ms n) ≡ (n % 4 ^ length ms) * 2 ^ lo
unfolding packed to_fours
packed_fours lo [] r n = sym (ap (λ (x : ℕ). x * 2 ^ lo) (mod-one n) ∙ zero-mul (2 ^ lo))
packed_fours lo (m ∷ ms) r n =
    let q : ℕ = n / 4 % 4 ^ length ms in
    let h : n % 4 < 4 = mod-lt n (lit< tt) in
    ap₂ bit_or (rw r.0 at (place_from lo (drop (lo + 2) m) (n % 4) h)) (packed_fours (lo + 2) ms r.1 (n / 4))
    ∙ or_shifted_r q (lo + 2) (n % 4 * 2 ^ lo) (rw (add_comm lo 2) (shl_lt 2 lo h))
    ∙ ap (λ (x : ℕ). q * x + n % 4 * 2 ^ lo) (pow-add 2 lo 2 ∙ mul_comm (2 ^ lo) 4)
    ∙ ap (λ (x : ℕ). x + n % 4 * 2 ^ lo) (sym (mul_assoc q 4 (2 ^ lo)))
    ∙ sym (ap (λ (x : ℕ). x * 2 ^ lo) (base_4 n (length ms)) ∙ add-mul (q * 4) (n % 4) (2 ^ lo))

-- where a region has k cells
pub some_cells : {k : ℕ} (n : ℕ) → k ≡ 4 ^ n → 0 < k
some_cells {k} n e = rw e (lt_of_lt_of_le (lit< tt) (pow-le-pow_right (lit< tt) zero-le))

pub cell_is : (d : Dim) (i n : ℕ) {k g s : ℕ} → 0 < k → k ≤ 64 → packed d.sum_axes (to_fours d.sum_axes n) ≡ (n % k) * 2 ^ 6 → g ≡ region i
    → s ≡ sum d g (((n % k) * 2 ^ 6) % 2 ^ 64) → s ≡ cell_of d i n
unfolding cell_of
cell_is d i n {k} z h p g s =
    let f : n % k * 2 ^ 6 < 2 ^ 64 = omega (arith, mod-lt n z) in
    s ∙ ap₂ (sum d) g (mod-eq_of_lt f ∙ sym p)
