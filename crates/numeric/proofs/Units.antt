-- An f32 as a number of units of 2 ^ -149: q * 2 ^ j of them, with q below 2 ^ 24; and that such numbers are compared as fractions are. Assumes nothing.
use Rattle.std.proofs.Common.{◌≡◌, ℕ, zero, suc, ◌+◌, ◌-◌, ◌*◌, ◌%◌, ◌^◌, ◌<◌, ◌≤◌, Bool, ◌&&◌, T, eqb, ltb, leb, ℤ, pos, negsuc, sym, ap, ◌∙◌, le_of_eq, lt_of_lt_of_le, le_of_suc-le-suc, lt_of_le_of_lt, mul_assoc, lt_of_mul-lt-mul_right, mul-lt-mul_of_pos_right, one-mul, lt_of_not-le, zero-mul, mul-one, mul_right_comm, not-le_of_lt, arith, lit<, ltb→lt, leb→le, pow_pos, pow-add, Float}
use native.Mathlib.Nat.{eq_of_mul-eq-mul_right}
use lib.Pow.{pow-lt}
use lib.Ieee.{nan, inf, fin, binary32, up, down, fits}
use lib.Ieee.Fits.{down_pos, and_l, and_r}
use lib.Ieee.Exact.{HasValue}

-- x, with the sign s, is q * 2 ^ j units
pub record Units (x : Float) (s : Bool) : Type 0 where
  pub q : ℕ
  pub j : ℕ
  pub few : q < 2 ^ 24
  pub small : q * 2 ^ j < 2 ^ 277
  pub is : HasValue x s (q * 2 ^ j) (2 ^ 149)

-- from one fraction to another of the same size
pub rescale : (x : Float) (s : Bool) (a c n d : ℕ) → 0 < c → n * c ≡ a * d → HasValue x s a c → HasValue x s n d
rescale nan s a c n d p h v = v
rescale (inf t) s a c n d p h v = v
rescale (fin t m e) s a c n d p h v = (
  v.0,
  eq_of_mul-eq-mul_right c p (m * up e * d) (n * down e)
      (mul_right_comm (m * up e) d c
      ∙ ap (λ (z : ℕ). z * d) v.1
      ∙ mul_right_comm a (down e) d
      ∙ ap (λ (z : ℕ). z * down e) (sym h)
      ∙ mul_right_comm n c (down e)),
)

-- two fractions of one number
pub same_size : (x : Float) (s t : Bool) (a c n d : ℕ) → HasValue x s a c → HasValue x t n d → n * c ≡ a * d
same_size nan s t a c n d v w = absurd v
same_size (inf r) s t a c n d v w = absurd v
same_size (fin r m e) s t a c n d v w =
    eq_of_mul-eq-mul_right (down e) (down_pos e) (n * c) (a * d)
    (mul_right_comm n c (down e) ∙ ap (λ (z : ℕ). z * c) (sym w.1) ∙ mul_right_comm (m * up e) d c ∙ ap (λ (z : ℕ). z * d) v.1 ∙ mul_right_comm a (down e) d)

-- a shift by k and one more stays within 149 places
meets : (k : ℕ) → 2 ^ suc k ≤ 2 ^ 149 → suc k ≤ 149
meets k h = le_of_suc-le-suc (lt_of_not-le (λ (g : 149 < suc k). not-le_of_lt (pow-lt g) h))

-- what `fits` says of a number that is not zero: below 2 ^ 24 times a power of two, of at least 2 ^ -149, and below 2 ^ 128
module _ (s : Bool) (m : ℕ) (e : ℤ) (F : T (fits binary32 (fin s (suc m) e))) where
  abbrev a : Bool
  a = eqb (suc m % 2) 1

  abbrev b : Bool
  b = ltb (suc m) (2 ^ 24)

  abbrev c : Bool
  c = leb (down e) (2 ^ 149)

  abbrev d : Bool
  d = ltb (suc m * up e) (2 ^ 128 * down e)

  all : T (a && b && c && d)
  unfolding fits
  all = F

  m_lt : suc m < 2 ^ 24
  m_lt = ltb→lt (suc m) (2 ^ 24) (and_r a b (and_l (a && b) c (and_l (a && b && c) d all)))

  low : down e ≤ 2 ^ 149
  low = leb→le (down e) (2 ^ 149) (and_r (a && b) c (and_l (a && b && c) d all))

  high : suc m * up e < 2 ^ 128 * down e
  high = ltb→lt (suc m * up e) (2 ^ 128 * down e) (and_r (a && b && c) d all)

-- 2 ^ e is 2 ^ j units
pub record Power (e : ℤ) : Type 0 where
  pub j : ℕ
  pub is : up e * 2 ^ 149 ≡ 2 ^ j * down e

power : (e : ℤ) → down e ≤ 2 ^ 149 → Power e
power (pos k) h = record { j = k + 149; is = sym (mul-one (2 ^ (k + 149)) ∙ pow-add 2 k 149) }
power (negsuc k) h = record { j = 149 - suc k; is = one-mul (2 ^ 149) ∙ ap (λ (z : ℕ). 2 ^ z) (sym (join (meets k h))) ∙ pow-add 2 (149 - suc k) (suc k) }
  where
    join : suc k ≤ 149 → 149 - suc k + suc k ≡ 149
    join h = omega arith

-- ---- every finite f32
pub units_of : (x : Float) (s : Bool) (n d : ℕ) → T (fits binary32 x) → HasValue x s n d → Units x s
units_of nan s n d F v = absurd v
units_of (inf t) s n d F v = absurd v
units_of (fin t zero e) s n d F v = record { q = 0; j = 0; few = lit< tt; small = lit< tt; is = (v.0, simp zero-mul) }
units_of (fin t (suc m) e) s n d F v =
    let p = power e (low t m e F) in
    let i : suc m * up e * 2 ^ 149 ≡ suc m * 2 ^ p.j * down e = mul_assoc (suc m) (up e) (2 ^ 149) ∙ ap (λ (z : ℕ). suc m * z) p.is ∙ sym (mul_assoc (suc m) (2 ^ p.j) (down e)) in
    record {
      q = suc m;
      j = p.j;
      few = m_lt t m e F;
      small = lt_of_mul-lt-mul_right (down e) (lt_of_le_of_lt (le_of_eq (sym i)) (lt_of_lt_of_le (mul-lt-mul_of_pos_right (high t m e F) (pow_pos 149)) (le_of_eq (mul_right_comm (2 ^ 128) (down e) (2 ^ 149)))));
      is = (v.0, i);
    }
