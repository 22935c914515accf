-- What `nearest_whole` and `round` cite: the nearest whole number read off a pattern, and that from 2 ^ 23 on an f32 is one. Assumes nothing.
use Rattle.std.proofs.lemmas.Nat.{shl-shr}
use Rattle.std.proofs.Common.{◌≡◌, ℕ, zero, suc, ◌+◌, ◌-◌, ◌*◌, ◌/◌, ◌%◌, ◌^◌, ◌<◌, ◌≤◌, Bool, true, false, cond, T, eqb, leb, sym, refl, ap, ◌∙◌, inl, inr, lt_of_lt_of_le, le_of_suc-le-suc, lt_of_le_of_lt, lt_irrefl, mod-lt, zero-lt-suc, mul_assoc, mul_comm, add-mul, eq-or-lt_of_le, mul-pos, mul-one, div-le_self, mul-div_cancel, mul_left_comm, arith, lit≤, pow_pos, pow_mono, pow-add, shl_lt, shr-shr, Float}
use native.Mathlib.Nat.{mul-mul-mul_comm, pow-succ', div-div-eq-div-mul, add-div_right, div-eq_of_lt}
use lib.Ieee.{nan, inf, fin, binary32, up, down, round, fits, of_fields}
use lib.Ieee.Fits.{down_pos, round-fits}
use lib.Ieee.Digits.{back}
use lib.Ieee.Exact.{HasValue, round_exact}
use lib.Ieee.Nearest.{div_same}
use lib.Ieee.Scale.{round_same}
use Rattle.numeric.specs.Bits.{field_units, pattern_units}
use Rattle.numeric.specs.Round.{round_away, nearest_whole}
use Rattle.numeric.proofs.Patterns.{bits, x_is, value, same_value}

-- ---- a half up, by way of twice the number

pub halves : (n d : ℕ) → 0 < d → nearest_whole n d ≡ (2 * n / d + 1) / 2
halves n d D = ap (λ (k : ℕ). (2 * n + d) / k) (mul_comm 2 d) ∙ sym (div-div-eq-div-mul (2 * n + d) d 2) ∙ ap (λ (k : ℕ). k / 2) (add-div_right (2 * n) D)

-- The leading digit and 23 more are 24.
digits : (t : ℕ) → t < 8388608 → 8388608 + t < 2 ^ 24
digits t h = omega arith

-- ---- below 1 / 2

under_half : (x t : ℕ) → x < 126 → t < 8388608 → field_units x t < 2 ^ 148
under_half zero t h k = lt_of_lt_of_le k (lit≤ tt)
under_half (suc j) t h k = lt_of_lt_of_le (shl_lt 24 j (digits t k)) (pow_mono (let m : 24 + j ≤ 148 = omega arith in m))

-- A field below that of 1 / 2 gives 0.
pub small_field : (a : ℕ) → a / 8388608 < 126 → 0 ≡ nearest_whole (pattern_units a) (2 ^ 149)
small_field a h = sym (halves (pattern_units a) (2 ^ 149) (pow_pos 149) ∙ ap (λ (k : ℕ). (k + 1) / 2) (div-eq_of_lt (twice (pattern_units a) (2 ^ 148) (under_half (a / 8388608) (a % 8388608) h (mod-lt a (zero-lt-suc _))))))
  where
    twice : (u l : ℕ) → u < l → 2 * u < 2 * l
    twice u l h = omega arith

-- ---- from 1 / 2 to 2 ^ 23

-- A shift down by what a shift up leaves of 149.
shifted : (q j : ℕ) → j ≤ 149 → q / 2 ^ (149 - j) ≡ q * 2 ^ j / 2 ^ 149
shifted q j h =
    let e : j + (149 - j) ≡ 149 = omega arith in
    ap (λ (k : ℕ). k / 2 ^ (149 - j)) (sym (shl-shr q j)) ∙ shr-shr (q * 2 ^ j) j (149 - j) ∙ ap (λ (k : ℕ). q * 2 ^ j / 2 ^ k) e

-- The shift gives twice the number without its fraction.
twice_cut : (x t : ℕ) → 0 < x → x ≤ 149 → (8388608 + t) / 2 ^ (149 - x) ≡ 2 * field_units x t / 2 ^ 149
twice_cut zero t p h = absurd (lt_irrefl 0 p)
twice_cut (suc j) t p h = shifted (8388608 + t) (suc j) h ∙ ap (λ (k : ℕ). k / 2 ^ 149) (ap (λ (k : ℕ). (8388608 + t) * k) (pow-succ' 2 j) ∙ sym (mul_left_comm 2 (8388608 + t) (2 ^ j)))

pub by_shift : (a : ℕ) → 126 ≤ a / 8388608 → a / 8388608 ≤ 149 → ((8388608 + a % 8388608) / 2 ^ (149 - a / 8388608) + 1) / 2 ≡ nearest_whole (pattern_units a) (2 ^ 149)
by_shift a h k = ap (λ (z : ℕ). (z + 1) / 2) (twice_cut (a / 8388608) (a % 8388608) (omega arith) k) ∙ sym (halves (pattern_units a) (2 ^ 149) (pow_pos 149))

-- What is shifted down has no more digits.
pub shift_lt : (t k : ℕ) → t < 8388608 → (8388608 + t) / 2 ^ k < 2 ^ 24
shift_lt t k h = lt_of_le_of_lt (div-le_self (8388608 + t) (2 ^ k)) (digits t h)

-- ---- the number of an f32

-- The same fraction in other terms has the same nearest whole number.
pub nearest_same : (n d u l : ℕ) → 0 < d → 0 < l → n * l ≡ u * d → nearest_whole n d ≡ nearest_whole u l
nearest_same n d u l D L h = div_same (2 * n + d) (2 * d) (2 * u + l) (2 * l) (mul-pos (zero-lt-suc 1) D) (mul-pos (zero-lt-suc 1) L) (cross n d l ∙ rw (h, mul_comm d l) (sym (cross u l d)))
  where
    cross : (a b k : ℕ) → (2 * a + b) * (2 * k) ≡ 4 * (a * k) + 2 * (b * k)
    cross a b k = add-mul (2 * a) b (2 * k) ∙ rw (mul-mul-mul_comm 2 a 2 k, mul_left_comm b 2 k)

pub by_value : (x : Float) (s : Bool) (u : ℕ) → HasValue x s u (2 ^ 149) → round_away x ≡ round binary32 s (nearest_whole u (2 ^ 149)) 1
unfolding round_away
by_value nan s u h = absurd h
by_value (inf t) s u h = absurd h
by_value (fin t m e) s u h = rw (h.0, nearest_same (m * up e) (down e) u (2 ^ 149) (down_pos e) (pow_pos 149) h.1)

-- ---- from 2 ^ 23 on

-- A whole number is nearest to itself.
pub itself : (c l : ℕ) → 0 < l → nearest_whole (c * l) l ≡ c
itself c l L = halves (c * l) l L ∙ rw (← mul_assoc 2 c l, mul-div_cancel (2 * c) L) (omega arith)

-- q * 2 ^ j units, with j from 149 on, are a whole number.
pub whole : (x : Float) (s : Bool) (q j : ℕ) → T (fits binary32 x) → q < 2 ^ 24 → q * 2 ^ j < 2 ^ 277 → 149 ≤ j → HasValue x s (q * 2 ^ j) (2 ^ 149) → round_away x ≡ x
whole x s q j F Q U ge h =
    let c = q * 2 ^ (j - 149) in
    let u : c * 2 ^ 149 ≡ q * 2 ^ j = mul_assoc q (2 ^ (j - 149)) (2 ^ 149) ∙ ap (λ (k : ℕ). q * k) (sym (pow-add 2 (j - 149) 149) ∙ ap (λ (k : ℕ). 2 ^ k) (back j 149 ge)) in
    by_value x s (q * 2 ^ j) h
    ∙ ap (λ (k : ℕ). round binary32 s k 1) (ap (λ (k : ℕ). nearest_whole k (2 ^ 149)) (sym u) ∙ itself c (2 ^ 149) (pow_pos 149))
    ∙ round_same binary32 s c 1 (q * 2 ^ j) (2 ^ 149) (zero-lt-suc 0) (pow_pos 149) (u ∙ sym (mul-one (q * 2 ^ j)))
    ∙ same_value _ x s (q * 2 ^ j) (round-fits binary32 s (q * 2 ^ j) (2 ^ 149)) F (round_exact binary32 s (q * 2 ^ j) (2 ^ 149) q j (pow_pos 149) Q U refl) h

-- The same by the field and the digits.
large_field : (x : Float) (s : Bool) (f t : ℕ) → T (fits binary32 x) → t < 8388608 → 150 ≤ f → f < 255 → HasValue x s (field_units f t) (2 ^ 149) → round_away x ≡ x
large_field x s zero t F H a b v = absurd (lt_irrefl 0 (omega arith))
large_field x s (suc j) t F H a b v =
    let room : 24 + j ≤ 277 = omega arith in
    whole x s (8388608 + t) j F (digits t H) (lt_of_lt_of_le (shl_lt 24 j (digits t H)) (pow_mono room)) (le_of_suc-le-suc a) v

-- The field of all ones is an infinity's or a NaN's, which answer themselves.
top_field : (s : Bool) (t : ℕ) → round_away (of_fields binary32 s 255 t) ≡ of_fields binary32 s 255 t
unfolding round_away of_fields
top_field s t = go (eqb t 0)
  where
    go : (b : Bool) → round_away (cond b (inf s) nan) ≡ cond b (inf s) nan
    go true = refl
    go false = refl

-- ---- x by its own pattern

module _ (x : Float) (F : T (fits binary32 x)) where
  abbrev a : ℕ
  a = bits x % 2147483648

  pub from_two_to_23 : 1258291200 ≤ a → x ≡ round_away x
  from_two_to_23 h =
      let b : a / 8388608 ≤ 255 = omega arith in
      elim (eq-or-lt_of_le b) [
        | inl e ↦ let i : x ≡ of_fields binary32 (leb 2147483648 (bits x)) 255 (a % 8388608) = rw e at (x_is x F) in i ∙ sym (top_field _ _) ∙ ap round_away (sym i)
        | inr l ↦ sym (large_field x (leb 2147483648 (bits x)) (a / 8388608) (a % 8388608) F (mod-lt a (zero-lt-suc _)) (omega arith) l (value x F (omega arith)))
      ]

  pub below_two_to_23 : a < 1258291200 → round_away x ≡ round binary32 (leb 2147483648 (bits x)) (nearest_whole (pattern_units a) (2 ^ 149)) 1
  below_two_to_23 h = by_value x (leb 2147483648 (bits x)) (pattern_units a) (value x F (omega arith))
