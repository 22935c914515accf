-- What rounds to a whole number from 1 to 65,535: of whole numbers these, and nothing below zero or from 2 ^ 23 on. Assumes nothing.
use Rattle.std.proofs.lemmas.Bool.{false≢true, lt-leb}
use Rattle.std.proofs.Common.{◌≡◌, ℕ, zero, suc, ◌+◌, ◌*◌, ◌/◌, ◌%◌, ◌^◌, ◌<◌, ◌≤◌, Bool, true, false, cond, not, ◌&&◌, T, eqb, leb, sym, refl, ap, ◌∙◌, ap₂, inl, inr, true≢false, le_trans, le_of_eq, le_of_suc-le-suc, lt_irrefl, mul-le-mul_right, mul-le-mul, eq-or-lt_of_le, mul-lt-mul_of_pos_right, mul_right_comm, le_of_mul-le-mul_right, arith, le→leb, leb→le, pow_pos, pow_mono, eqb-true, le-leb, leb-false, leb-true, Float}
use lib.Dec.{nleb→lt}
use lib.Ieee.{nan, inf, fin, binary32, up, down, round, fits, lt, eq, le, of_bits, of_fields, of_int, in_float}
use lib.Ieee.Back.{round_whole, unsigned_back}
use lib.Ieee.Fits.{down_pos}
use lib.Ieee.Exact.{HasValue}
use Rattle.numeric.specs.Bits.{one, pattern_units, field_units}
use Rattle.numeric.specs.Round.{round_away, nearest_whole, cast_u32, nearest_to}
use Rattle.numeric.proofs.Cast.{le_is}
use Rattle.numeric.proofs.Patterns.{bits, x_is, value, negative, round_negative}
use Rattle.numeric.proofs.Whole.{from_two_to_23, below_two_to_23}

-- 65,535
abbrev last : Float
last = of_bits binary32 0x477fff00

abbrev pub InRange : Float → Bool
InRange r = le one r && le r last

pub and_false : (b : Bool) → (b && false) ≡ false
and_false true = refl
and_false false = refl

-- both sides as often
scaled : (a b d : ℕ) → 0 < d → leb (a * d) (b * d) ≡ leb a b
scaled a b d D = go (leb a b) refl
  where
    go : (t : Bool) → leb a b ≡ t → leb (a * d) (b * d) ≡ t
    go true e = le-leb (a * d) (b * d) (mul-le-mul_right d (leb-true a b e))
    go false e = lt-leb (a * d) (b * d) (mul-lt-mul_of_pos_right (leb-false a b e) D)

-- of whole numbers
pub of_whole : (y : Float) (n : ℕ) → HasValue y false n 1 → InRange y ≡ (leb 1 n && leb n 65535)
unfolding le lt eq of_bits
of_whole nan n h = absurd h
of_whole (inf t) n h = absurd h
of_whole (fin true m e) n h = absurd (true≢false h.0)
of_whole (fin false m e) n h =
    ap₂ ◌&&◌
    (le_is (1 * 1 * down e) (m * up e * 1) ∙ ap (leb (1 * 1 * down e)) h.1 ∙ scaled 1 n (down e) (down_pos e))
    (le_is (m * up e * 1) (65535 * 1 * down e) ∙ ap (λ (k : ℕ). leb k (65535 * 1 * down e)) h.1 ∙ scaled n 65535 (down e) (down_pos e))

-- below zero
out_negative : (y : Float) → negative y ≡ true → InRange y ≡ false
unfolding le lt eq of_bits
out_negative nan h = absurd (false≢true h)
out_negative (inf true) h = refl
out_negative (inf false) h = absurd (false≢true h)
out_negative (fin false m e) h = absurd (false≢true h)
out_negative (fin true m e) h = go (eqb (1 * 1 * down e) (m * up e * 1)) (eqb (1 * 1 * down e) 0) refl
  where
    go : (p q : Bool) → eqb (1 * 1 * down e) 0 ≡ q → ((p && q) && le (fin true m e) last) ≡ false
    go p true z = absurd (lt_irrefl 0 (omega (arith, down_pos e, eqb-true (1 * 1 * down e) 0 z)))
    go true false z = refl
    go false false z = refl

-- from 2 ^ 23 on
out_large : (y : Float) (u p : ℕ) → 0 < p → 8388608 * p ≤ u → HasValue y false u p → InRange y ≡ false
unfolding le lt eq of_bits
out_large nan u p P l h = absurd h
out_large (inf t) u p P l h = absurd h
out_large (fin true m e) u p P l h = absurd (true≢false h.0)
out_large (fin false m e) u p P l h =
    let wide : 8388608 * down e * p ≤ m * up e * p = le_trans (le_of_eq (mul_right_comm 8388608 (down e) p)) (le_trans (mul-le-mul_right (down e) l) (le_of_eq (sym h.1))) in
    let high : 8388608 * down e ≤ m * up e = le_of_mul-le-mul_right wide P in
    ap (λ (b : Bool). le one (fin false m e) && b) (le_is (m * up e * 1) (65535 * 1 * down e) ∙ lt-leb (m * up e * 1) (65535 * 1 * down e) (omega (arith, high, down_pos e))) ∙ and_false (le one (fin false m e))

-- the field of all ones
out_top : (s : Bool) (t : ℕ) → InRange (of_fields binary32 s 255 t) ≡ false
unfolding le lt eq of_bits of_fields
out_top s t = go s (eqb t 0)
  where
    go : (s b : Bool) → InRange (cond b (inf s) nan) ≡ false
    go true true = refl
    go false true = refl
    go s false = refl

signed : (y : Float) (s : Bool) (n d : ℕ) → HasValue y s n d → negative y ≡ s
signed nan s n d h = absurd h
signed (inf t) s n d h = absurd h
signed (fin t m e) s n d h = h.0

large_units : (f t : ℕ) → 150 ≤ f → 8388608 * 2 ^ 149 ≤ field_units f t
large_units zero t l = absurd (lt_irrefl 0 (omega arith))
large_units (suc j) t l = mul-le-mul (let k : 8388608 ≤ 8388608 + t = omega arith in k) (pow_mono (le_of_suc-le-suc l))

module _ (x : Float) (F : T (fits binary32 x)) where
  abbrev a : ℕ
  a = bits x % 2147483648

  -- what is whole, by its sign
  by_sign : (s : Bool) → 150 ≤ a / 8388608 → HasValue x s (pattern_units a) (2 ^ 149) → InRange x ≡ false
  by_sign true l v = out_negative x (signed x true _ _ v)
  by_sign false l v = out_large x (pattern_units a) (2 ^ 149) (pow_pos 149) (large_units (a / 8388608) (a % 8388608) l) v

  whole : 1258291200 ≤ a → InRange x ≡ false
  whole l =
      let b : a / 8388608 ≤ 255 = omega arith in
      elim (eq-or-lt_of_le b) [
        | inl e ↦ let i : x ≡ of_fields binary32 (leb 2147483648 (bits x)) 255 (a % 8388608) = rw e at (x_is x F) in ap InRange i ∙ out_top _ _
        | inr u ↦ by_sign (leb 2147483648 (bits x)) (omega arith) (value x F (omega arith))
      ]

  pub out : 1258291200 ≤ bits x → InRange (round_away x) ≡ false
  out h = go (leb 1258291200 a) (leb→le 1258291200 a) (nleb→lt 1258291200 a)
    where
      go : (b : Bool) → (T b → 1258291200 ≤ a) → (T (not b) → a < 1258291200) → InRange (round_away x) ≡ false
      go true l g = ap InRange (sym (from_two_to_23 x F (l tt))) ∙ whole (l tt)
      go false l g = out_negative _ (ap negative (below_two_to_23 x F (g tt)) ∙ round_negative _ _ _ ∙ le-leb 2147483648 (bits x) (let u = g tt in omega arith))

  -- what is rounded below 2 ^ 23, where the sign is clear
  pub rounds : bits x < 1258291200 → round_away x ≡ nearest_to (nearest_whole (pattern_units (bits x)) (2 ^ 149))
  unfolding of_int
  rounds h =
      let clear : a ≡ bits x = omega arith in
      below_two_to_23 x F (omega arith) ∙ rw (lt-leb 2147483648 (bits x) (omega arith), clear)

-- a NaN is none
pub out_nan : (x : Float) → x ≡ nan → InRange (round_away x) ≡ false
unfolding le lt eq round_away of_bits
out_nan x e = rw e

-- a whole number, which is its own cast
module _ (n : ℕ) (l : n ≤ 2 ^ 24) where
  pub whole_range : InRange (nearest_to n) ≡ (leb 1 n && leb n 65535)
  unfolding of_int
  whole_range = of_whole (round binary32 false n 1) n (round_whole binary32 false n l)

  pub whole_cast : cast_u32 (nearest_to n) ≡ n
  unfolding in_float
  whole_cast = (unsigned_back binary32 32 n (le→leb n (2 ^ 24) l) (omega (arith, l))).1
