-- What an f32's pattern says of it: the number, in units of 2 ^ -149, the smallest f32; the sign; and whether it is a NaN or a zero. Assumes nothing.
use Rattle.std.proofs.lemmas.Bool.{false≢true, lt-leb}
use Rattle.std.proofs.Common.{◌≡◌, ℕ, zero, suc, ◌+◌, ◌-◌, ◌*◌, ◌/◌, ◌%◌, ◌^◌, ◌<◌, ◌≤◌, Bool, true, false, cond, not, T, eqb, ltb, leb, ℤ, pos, negsuc, sym, refl, ap, ◌∙◌, subst, true≢false, le_of_lt, lt_irrefl, mod-eq_of_lt, zero-lt-suc, mul-pos, one-mul, zero-mul, mul-one, mul-div_cancel, arith, eqb→eq, ltb-false, ltb-true, le-ltb, ne_eqb, Float}
use native.Mathlib.Nat.{pow-succ'}
use lib.Arith.{digits_div, digits_mod}
use lib.Ieee.{nan, inf, fin, binary32, up, down, size, odd, units, round, fits, is_nan, neg, lt, eq, div, of_fields, of_bits, to_bits, nan_bits}
use lib.Ieee.Fits.{up_pos, down_pos, round_is}
use lib.Ieee.Bits.{of_bits-to_bits, nan_bits_is, nan_bits_above}
use lib.Ieee.Exact.{HasValue, odd_sign}
use Rattle.numeric.specs.Bits.{none, ◌⊘◌, field_units, pattern_units}

-- ---- a flag's equation, as the fact that a law asks for

pub yes : {b : Bool} → b ≡ true → T b
yes h = subst T (sym h) tt

pub no : {b : Bool} → b ≡ false → T (not b)
no h = subst (λ (a : Bool). T (not a)) (sym h) tt

-- ---- NaNs

-- The test passes at the NaN alone.
pub is_nan_lem : (x : Float) → true ≡ is_nan x → x ≡ nan
unfolding is_nan
is_nan_lem nan h = refl
is_nan_lem (inf s) h = absurd (true≢false h)
is_nan_lem (fin s m e) h = absurd (true≢false h)

-- A pattern below the infinity's is no NaN's.
pub no_nan_bits : (b : ℕ) → b < 2139095040 → nan_bits binary32 b ≡ false
no_nan_bits b h = let l : b < 2147483648 = omega arith in nan_bits_above binary32 b ∙ rw (mod-eq_of_lt l) (le-ltb 2139095040 b (le_of_lt h))

-- A NaN's pattern gives the one NaN.
pub nan_pattern : (b : ℕ) → nan_bits binary32 b ≡ true → of_bits binary32 b ≡ nan
unfolding is_nan
nan_pattern b h = go (of_bits binary32 b) (sym (nan_bits_is binary32 b) ∙ h)
  where
    go : (x : Float) → is_nan x ≡ true → x ≡ nan
    go nan h = refl
    go (inf s) h = absurd (false≢true h)
    go (fin s m e) h = absurd (false≢true h)

-- How the code makes a NaN.
pub zero_by_zero : none ⊘ none ≡ nan
unfolding div of_bits
zero_by_zero = refl

-- ---- what a pattern's fields stand for

-- A pattern is its sign, the exponent's field and the digits, both read off what is left without the sign.
pub of_bits_is : (b : ℕ) → of_bits binary32 b ≡ of_fields binary32 (leb 2147483648 b) (b % 2147483648 / 8388608) (b % 2147483648 % 8388608)
unfolding of_bits
of_bits_is b = ap (of_fields binary32 (leb 2147483648 b) (b % 2147483648 / 8388608)) (omega arith)

-- A field below 255 is a finite number's.
pub fields_value : (s : Bool) (x t : ℕ) → x < 255 → HasValue (of_fields binary32 s x t) s (field_units x t) (2 ^ 149)
unfolding of_fields
fields_value s zero t h = rw mul-one at (odd_sign 24 s t 0 149)
fields_value s (suc x) t h = rw (ne_eqb (suc x) 255 (omega arith)) (odd_sign 24 s (8388608 + t) x 149)

-- The same of a pattern with a clear sign, given by its fields.
pub pattern_value : (x t : ℕ) → x < 255 → t < 8388608 → HasValue (of_bits binary32 (x * 8388608 + t)) false (field_units x t) (2 ^ 149)
pattern_value x t h k =
    let small : x * 8388608 + t < 2147483648 = omega arith in
    rw (of_bits_is (x * 8388608 + t), lt-leb 2147483648 _ small, mod-eq_of_lt small, digits_div x k, digits_mod x k) (fields_value false x t h)

-- ---- what x's own pattern says of x

abbrev pub bits : Float → ℕ
bits x = to_bits binary32 x

module _ (x : Float) (F : T (fits binary32 x)) where
  pub x_is : x ≡ of_fields binary32 (leb 2147483648 (bits x)) (bits x % 2147483648 / 8388608) (bits x % 2147483648 % 8388608)
  x_is = sym (of_bits-to_bits binary32 x F) ∙ of_bits_is (bits x)

  pub value : bits x % 2147483648 < 2139095040 → HasValue x (leb 2147483648 (bits x)) (pattern_units (bits x % 2147483648)) (2 ^ 149)
  value h =
      subst (λ (y : Float). HasValue y (leb 2147483648 (bits x)) (pattern_units (bits x % 2147483648)) (2 ^ 149)) (sym x_is)
      (fields_value (leb 2147483648 (bits x)) (bits x % 2147483648 / 8388608) (bits x % 2147483648 % 8388608) (omega arith))

-- ---- an f32 is known by its sign and its number

to_bits_is : (s : Bool) (m : ℕ) (e : ℤ) (n : ℕ) → m * up e * 2 ^ 149 / down e ≡ n
    → bits (fin s m e) ≡ cond s 2147483648 0 + (size n - 24) * 8388608 + n / 2 ^ (size n - 24)
unfolding to_bits
to_bits_is s m e n p = ap (λ (x : ℕ). cond s 2147483648 0 + (size x - 24) * 8388608 + x / 2 ^ (size x - 24)) p

pub value_bits : (x : Float) (s : Bool) (n : ℕ) → HasValue x s n (2 ^ 149) → bits x ≡ cond s 2147483648 0 + (size n - 24) * 8388608 + n / 2 ^ (size n - 24)
value_bits nan s n h = absurd h
value_bits (inf t) s n h = absurd h
value_bits (fin t m e) s n h = rw (← h.0) (to_bits_is t m e n (ap (λ (k : ℕ). k / down e) h.1 ∙ mul-div_cancel n (down_pos e)))

pub same_value : (x y : Float) (s : Bool) (n : ℕ) → T (fits binary32 x) → T (fits binary32 y) → HasValue x s n (2 ^ 149) → HasValue y s n (2 ^ 149) → x ≡ y
same_value x y s n F G p q = sym (of_bits-to_bits binary32 x F) ∙ ap (of_bits binary32) (value_bits x s n p ∙ sym (value_bits y s n q)) ∙ of_bits-to_bits binary32 y G

-- ---- the sign

-- Whether the sign is set, also of a zero.
abbrev pub negative : Float → Bool
negative nan = false
negative (inf s) = s
negative (fin s m e) = s

odd_negative : (d : ℕ) (s : Bool) (q k l : ℕ) → negative (odd d s q k l) ≡ s
unfolding odd
odd_negative d s zero k l = refl
odd_negative d s (suc q) k l = refl

fields_negative : (s : Bool) (x t : ℕ) → is_nan (of_fields binary32 s x t) ≡ false → negative (of_fields binary32 s x t) ≡ s
unfolding of_fields
fields_negative s zero t h = odd_negative 24 s t 0 149
fields_negative s (suc x) t h = go (eqb (suc x) 255) (eqb t 0) h
  where
    go : (a b : Bool) → is_nan (cond a (cond b (inf s) nan) (odd 24 s (8388608 + t) x 149)) ≡ false → negative (cond a (cond b (inf s) nan) (odd 24 s (8388608 + t) x 149)) ≡ s
    go true true h = refl
    go true false h = unfold is_nan in absurd (true≢false h)
    go false b h = odd_negative 24 s (8388608 + t) x 149

-- The sign is the pattern's highest bit.
pub bits_negative : (x : Float) → T (fits binary32 x) → is_nan x ≡ false → negative x ≡ leb 2147483648 (bits x)
bits_negative x F h = ap negative (x_is x F) ∙ fields_negative _ _ _ (ap is_nan (sym (x_is x F)) ∙ h)

-- A sign goes through `round`.
neg_odd : (d q k l : ℕ) → neg (odd d false q k l) ≡ odd d true q k l
unfolding neg odd
neg_odd d zero k l = refl
neg_odd d (suc q) k l = refl

neg_units : (q k : ℕ) → neg (units binary32 false q k) ≡ units binary32 true q k
unfolding units
neg_units q k = go (ltb (q * 2 ^ k) (2 ^ 277))
  where
    go : (b : Bool) → neg (cond b (odd 25 false q k 149) (inf false)) ≡ cond b (odd 25 true q k 149) (inf true)
    go true = neg_odd 25 q k 149
    go false = unfold neg in refl

pub neg_round : (n d : ℕ) → neg (round binary32 false n d) ≡ round binary32 true n d
neg_round n d = ap neg (round_is binary32 false n d) ∙ neg_units _ _ ∙ sym (round_is binary32 true n d)

units_negative : (s : Bool) (q k : ℕ) → negative (units binary32 s q k) ≡ s
unfolding units
units_negative s q k = go (ltb (q * 2 ^ k) (2 ^ 277))
  where
    go : (b : Bool) → negative (cond b (odd 25 s q k 149) (inf s)) ≡ s
    go true = odd_negative 25 s q k 149
    go false = refl

pub round_negative : (s : Bool) (n d : ℕ) → negative (round binary32 s n d) ≡ s
round_negative s n d = ap negative (round_is binary32 s n d) ∙ units_negative s _ _

-- ---- against zero

-- A zero equals 0, whatever its sign.
pub zero_equals : (s : Bool) (e : ℤ) → eq (fin s zero e) none ≡ true
unfolding eq of_bits
zero_equals true e = simp zero-mul
zero_equals false e = simp zero-mul

-- What is no zero does not equal it.
pub some_differs : (s : Bool) (m : ℕ) (e : ℤ) → eq (fin s (suc m) e) none ≡ false
unfolding eq of_bits
some_differs s m e =
    let p : 0 < suc m * up e = mul-pos (zero-lt-suc m) (up_pos e) in
    rw (ne_eqb (suc m * up e * 1) (0 * 1 * down e) (λ q. lt_irrefl 0 (omega arith)))

-- What is below 0 has its sign set.
pub below_zero : (x : Float) → lt x none ≡ true → negative x ≡ true
unfolding lt of_bits
below_zero nan h = h
below_zero (inf s) h = h
below_zero (fin true m e) h = refl
below_zero (fin false m e) h = let q : m * up e * 1 < 0 * 1 * down e = ltb-true (m * up e * 1) (0 * 1 * down e) h in absurd (lt_irrefl 0 (omega arith))

-- What is neither below 0 nor equal to it has its sign clear.
pub above_zero : (x : Float) → lt x none ≡ false → eq x none ≡ false → negative x ≡ false
unfolding lt of_bits
above_zero nan h k = refl
above_zero (inf s) h k = h
above_zero (fin false m e) h k = refl
above_zero (fin true zero e) h k = absurd (true≢false (sym (zero_equals true e) ∙ k))
above_zero (fin true (suc m) e) h k =
    let p : 0 < suc m * up e = mul-pos (zero-lt-suc m) (up_pos e) in
    let q : suc m * up e * 1 + 0 * 1 * down e ≤ 0 = ltb-false 0 (suc m * up e * 1 + 0 * 1 * down e) h in
    absurd (lt_irrefl 0 (omega arith))

even : (p : ℕ) → 2 * p ≡ 1 → ⊥
even p h = omega arith

-- A zero has one exponent.
zero_exponent : (e : ℤ) → up e * down e ≡ 1 → e ≡ pos 0
zero_exponent (pos zero) h = refl
zero_exponent (pos (suc k)) h = absurd (even (2 ^ k) (sym (pow-succ' 2 k) ∙ sym (mul-one (2 ^ suc k)) ∙ h))
zero_exponent (negsuc k) h = absurd (even (2 ^ k) (sym (pow-succ' 2 k) ∙ sym (one-mul (2 ^ suc k)) ∙ h))

-- What equals 0 is +0 or -0.
pub is_zero : (x : Float) → T (fits binary32 x) → eq x none ≡ true → x ≡ fin (negative x) 0 (pos 0)
unfolding eq fits of_bits
is_zero nan F h = absurd (false≢true h)
is_zero (inf s) F h = absurd (false≢true h)
is_zero (fin s zero e) F h = ap (fin s 0) (zero_exponent e (eqb→eq (up e * down e) 1 F))
is_zero (fin s (suc m) e) F h = absurd (true≢false (sym h ∙ some_differs s m e))
