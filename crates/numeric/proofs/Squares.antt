-- Squares and whole roots: facts on plain numbers. Assumes nothing.
use Rattle.std.proofs.Common.{◌≡◌, ℕ, zero, suc, ◌+◌, ◌-◌, ◌*◌, ◌/◌, ◌^◌, ◌<◌, ◌≤◌, Bool, true, false, cond, not, T, leb, sym, refl, subst, le_trans, le_of_eq, lt_of_lt_of_le, lt_of_le_of_lt, mul_assoc, add-mul, mul-le-mul, mul-lt-mul_of_pos_right, mul-pos, pow-suc, lt_of_not-le, mul-add, not-le_of_lt, add-one-le, arith, leb→le, pow_pos, pow_mono, pow-add}
use native.Mathlib.Nat.{mul-mul-mul_comm, div-eq_of_lt-le}
use lib.Dec.{nleb→lt}
use lib.Ieee.{size}
use lib.Ieee.Digits.{size-lt, size-le}
use Rattle.numeric.specs.Root.{one_more, root_digits, whole_root}

-- r is the whole part of n's root
abbrev pub Root : ℕ → ℕ → Type 0
Root n r = (r * r ≤ n) × (n < (r + 1) * (r + 1))

pub twice_square : (r : ℕ) → (2 * r) * (2 * r) ≡ 4 * (r * r)
twice_square r = mul-mul-mul_comm 2 r 2 r

-- (r + 1)² and (2 r + 1)²
pub next_square : (r : ℕ) → (r + 1) * (r + 1) ≡ r * r + 2 * r + 1
next_square r = let e : (r + 1) * (r + 1) ≡ r * (r + 1) + 1 * (r + 1) = add-mul r 1 (r + 1) in
    let f : r * (r + 1) ≡ r * r + r * 1 = mul-add r r 1 in omega arith

pub odd_square : (r : ℕ) → (2 * r + 1) * (2 * r + 1) ≡ 4 * (r * r) + 4 * r + 1
odd_square r = let e = next_square (2 * r) in let f = twice_square r in omega arith

-- ---- `whole_root` is the whole part of the root
step : (n r : ℕ) → Root (n / 4) r → Root n (one_more n (2 * r))
step n r h = go (leb ((2 * r + 1) * (2 * r + 1)) n) (leb→le ((2 * r + 1) * (2 * r + 1)) n) (nleb→lt ((2 * r + 1) * (2 * r + 1)) n)
  where
    up : n < (2 * r + 1 + 1) * (2 * r + 1 + 1)
    up =
        let a = h.1 in
        let b = next_square r in
        let c = odd_square r in
        let d = next_square (2 * r + 1) in
        omega arith

    low : (2 * r) * (2 * r) ≤ n
    low = let a = h.0 in let b = twice_square r in omega arith

    go : (b : Bool) → (T b → (2 * r + 1) * (2 * r + 1) ≤ n) → (T (not b) → n < (2 * r + 1) * (2 * r + 1)) → Root n (cond b (2 * r + 1) (2 * r))
    go true p q = (p tt, up)
    go false p q = (low, q tt)

digits_root : (k n : ℕ) → n < 2 ^ k → Root n (root_digits k n)
unfolding root_digits
digits_root zero n h = omega arith
digits_root (suc k) n h = step n (root_digits k (n / 4)) (digits_root k (n / 4) (less (2 ^ k) (subst (λ (z : ℕ). n < z) (pow-suc 2 k) h)))
  where
    less : (p : ℕ) → n < p * 2 → n / 4 < p
    less p h = omega arith

pub whole_root_lem : (n : ℕ) → Root n (whole_root n)
unfolding whole_root
whole_root_lem n = digits_root (size n) n (size-lt n)

-- ---- the order of numbers is that of their squares
pub square_lt : (a b : ℕ) → a * a < b * b → a < b
square_lt a b h = lt_of_not-le (λ (g : b ≤ a). not-le_of_lt h (mul-le-mul g g))

-- ---- the whole number nearest to the root
abbrev pub Near : ℕ → ℕ → Type 0
Near n q = (q * q < n + q) × (n ≤ q * q + q)

-- it is the whole part r, with at most r left, or one more, with more than r left
pub near_down : (n r : ℕ) → Near n r → r * r ≤ n → Root n r × (n - r * r ≤ r)
near_down n r h g = ((g, omega (arith, next_square r)), omega arith)

pub near_up : (n r : ℕ) → Near n (r + 1) → n < (r + 1) * (r + 1) → Root n r × (r < n - r * r)
near_up n r h g = ((omega (arith, next_square r), g), omega (arith, next_square r))

-- ---- the root of n at 2 ^ 46 ≤ n < 2 ^ 48 has 24 digits
module _ (n r : ℕ) (R : Root n r) where
  pub root_ge : 70368744177664 ≤ n → 8388608 ≤ r
  root_ge h = omega (arith, square_lt 8388608 (r + 1) (lt_of_le_of_lt h R.1))

  pub root_lt : n < 281474976710656 → r < 16777216
  root_lt h = square_lt r 16777216 (lt_of_le_of_lt R.0 h)

-- ---- the root of n * 4 ^ k, by that of n
module _ (n k r : ℕ) (R : Root n r) (f : ℕ) (F : Root (n * (2 ^ k * 2 ^ k)) f) where
  abbrev p : ℕ
  p = 2 ^ k

  pub from_below : r * p ≤ f
  from_below = omega (arith, square_lt (r * p) (f + 1) (lt_of_le_of_lt (le_trans (le_of_eq (mul-mul-mul_comm r p r p)) (mul-le-mul R.0 (le_of_eq refl))) F.1))

  pub from_above : f < (r + 1) * p
  from_above = square_lt f ((r + 1) * p) (lt_of_le_of_lt F.0 (lt_of_lt_of_le (mul-lt-mul_of_pos_right R.1 (mul-pos (pow_pos k) (pow_pos k))) (le_of_eq (sym (mul-mul-mul_comm (r + 1) p (r + 1) p)))))

  pub leading : f / p ≡ r
  leading = div-eq_of_lt-le p from_below from_above

  -- with 24 digits in r, f has k more
  pub dropped : 8388608 ≤ r → r < 16777216 → size f - 24 ≡ k
  dropped h g = exact (size f) (size-le f (24 + k) hi) (lt_of_not-le (λ (z : size f ≤ 23 + k). not-le_of_lt (lt_of_lt_of_le (size-lt f) (pow_mono z)) lo))
    where
      lo : 2 ^ (23 + k) ≤ f
      lo = le_trans (le_of_eq (pow-add 2 23 k)) (le_trans (mul-le-mul h (le_of_eq refl)) from_below)

      hi : f < 2 ^ (24 + k)
      hi = lt_of_lt_of_le from_above (le_trans (mul-le-mul (add-one-le g) (le_of_eq refl)) (le_of_eq (sym (pow-add 2 24 k))))

      exact : (z : ℕ) → z ≤ 24 + k → 23 + k < z → z - 24 ≡ k
      exact z a b = omega arith

  P : 0 < p * p
  P = mul-pos (pow_pos k) (pow_pos k)

  -- the root is above the middle
  pub above_middle : r < n - r * r → (2 * r + 1) * p * ((2 * r + 1) * p) < 4 * (n * (p * p))
  above_middle h = lt_of_le_of_lt (le_of_eq (mul-mul-mul_comm (2 * r + 1) p (2 * r + 1) p)) (lt_of_lt_of_le (mul-lt-mul_of_pos_right (omega (arith, odd_square r)) P) (le_of_eq (mul_assoc 4 n (p * p))))

  pub below_middle : n - r * r ≤ r → 4 * (n * (p * p)) < (2 * r + 1) * p * ((2 * r + 1) * p)
  below_middle h = lt_of_le_of_lt (le_of_eq (sym (mul_assoc 4 n (p * p)))) (lt_of_lt_of_le (mul-lt-mul_of_pos_right (omega (arith, odd_square r, R.0)) P) (le_of_eq (sym (mul-mul-mul_comm (2 * r + 1) p (2 * r + 1) p))))
