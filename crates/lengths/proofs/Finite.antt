-- A time above 0 stays finite when a length of at most that time is subtracted, and when it is divided by a number from 1 on: each rounds to no more than the time. Assumes
-- nothing.
use Rattle.std.proofs.Common.{◌≡◌, refl, sym, ap, ◌∙◌, subst, Bool, true, false, cond, ◌⊎◌, inl, inr, ℕ, zero, suc, ◌+◌, ◌-◌, ◌*◌, ◌^◌, ◌<◌, ◌≤◌, zero-lt-suc, le_trans, le_of_eq, zero-mul, mul-one, mul_comm, mul_assoc, mul-pos, mul-le-mul_right, mul-le-mul_left, arith, lt-ltb, le-ltb, ne_eqb, T, ltb, ltb→lt, Float}
use lib.IntN.{ℤ, pos}
use lib.Ieee.{nan, inf, fin, binary32, up, down, round, units, odd, low, emax, prec, fits, lt, le, sub, div, of_int, of_bits}
use lib.Ieee.Fits.{up_pos, down_pos, round_is}
use lib.Ieee.Exact.{HasValue, round_exact, odd_sign}
use lib.Ieee.Order.{round_mono}
use lib.Ieee.Positive.{positive, above, above_of_le, le→cross}
use lib.Ieee.Scale.{finite}
use Rattle.numeric.specs.Bits.{none}
use Rattle.numeric.proofs.Units.{units_of}

-- ---- rounded numbers

-- what is not negative is rounded to an infinity above, or to a finite number
value_finite : (x : Float) (s : Bool) (a c : ℕ) → HasValue x s a c → T (finite x)
value_finite nan s a c h = absurd h
value_finite (inf t) s a c h = absurd h
value_finite (fin t m e) s a c h = tt

units_end : (q k : ℕ) → (units binary32 false q k ≡ inf false) ⊎ T (finite (units binary32 false q k))
unfolding units
units_end q k = go (ltb (q * 2 ^ k) (2 ^ (low binary32 + suc (emax binary32))))
  where
    go : (b : Bool) → (cond b (odd (suc (prec binary32)) false q k (low binary32)) (inf false) ≡ inf false) ⊎ T (finite (cond b (odd (suc (prec binary32)) false q k (low binary32)) (inf false)))
    go true = inr (value_finite (odd (suc (prec binary32)) false q k (low binary32)) false (q * 2 ^ k) (2 ^ low binary32) (odd_sign (suc (prec binary32)) false q k (low binary32)))
    go false = inl refl

round_end : (a c : ℕ) → (round binary32 false a c ≡ inf false) ⊎ T (finite (round binary32 false a c))
round_end a c = rw (round_is binary32 false a c) (units_end _ _)

-- no infinity is at most a finite number
not_under : (y : Float) → T (finite y) → T (le (inf false) y) → ⊥
unfolding le
not_under nan f l = f
not_under (inf t) f l = f
not_under (fin t n d) f l = l

-- a smaller fraction than one that is rounded to a finite number is so too
pub rounds_under : (a b c d : ℕ) → 0 < b → 0 < d → a * d ≤ c * b → T (finite (round binary32 false c d)) → T (finite (round binary32 false a b))
rounds_under a b c d B D h f = elim (round_end a b) [
  | inl e ↦ absurd (not_under (round binary32 false c d) f (subst (λ (x : Float). T (le x (round binary32 false c d))) e (round_mono binary32 a b c d B D h)))
  | inr g ↦ g
]

-- an f32 is its own rounded number
pub own_round : (s : Bool) (m : ℕ) (e : ℤ) → T (fits binary32 (fin s m e)) → T (finite (round binary32 false (m * up e) (down e)))
own_round s m e F =
    let u = units_of (fin s m e) s (m * up e) (down e) F (refl, refl) in
    value_finite (round binary32 false (m * up e) (down e)) false (m * up e) (down e)
    (round_exact binary32 false (m * up e) (down e) u.q u.j (down_pos e) u.few u.small u.is.1)

-- ---- above 0

pub above_is : (x : Float) → lt none x ≡ above x
unfolding lt of_bits
above_is nan = refl
above_is (inf true) = refl
above_is (inf false) = refl
above_is (fin true m e) = refl
above_is (fin false zero e) = rw (zero-mul (down e), zero-mul (up e))
above_is (fin false (suc m) e) = rw (zero-mul (down e), mul-one) (lt-ltb 0 (suc m * up e) (mul-pos (zero-lt-suc m) (up_pos e)) ∙ sym (lt-ltb 0 (suc m) (zero-lt-suc m)))

-- what is above 0 and at most a finite number is finite itself
pub under : (x y : Float) → T (above x) → T (finite y) → T (le x y) → T (positive x)
unfolding le
under nan y a f l = a
under (inf true) y a f l = a
under (inf false) y a f l = absurd (not_under y f l)
under (fin true m e) y a f l = a
under (fin false m e) y a f l = a

-- ---- what remains, and the least length

-- both by their fractions
sub_is : (m : ℕ) (e : ℤ) (n : ℕ) (d : ℤ) → n * up d * down e ≤ m * up e * down d
    → sub binary32 (fin false m e) (fin false n d) ≡ round binary32 false (m * up e * down d - n * up d * down e) (down e * down d)
unfolding sub
sub_is m e n d h = rw (le-ltb (m * up e * down d) (n * up d * down e) h)

div_is : (m : ℕ) (e : ℤ) (k : ℕ) (d : ℤ) → 0 < k → div binary32 (fin false m e) (fin false k d) ≡ round binary32 false (m * up e * down d) (k * up d * down e)
unfolding div
div_is m e k d h = rw (ne_eqb k 0 (λ z. omega arith))

pub sub_finite : (r dt : Float) → T (fits binary32 r) → T (positive r) → T (positive dt) → T (le dt r) → T (finite (sub binary32 r dt))
sub_finite nan dt F p q l = absurd p
sub_finite (inf s) dt F p q l = absurd p
sub_finite (fin true m e) dt F p q l = absurd p
sub_finite (fin false m e) nan F p q l = absurd q
sub_finite (fin false m e) (inf s) F p q l = absurd q
sub_finite (fin false m e) (fin true n d) F p q l = absurd q
sub_finite (fin false m e) (fin false n d) F p q l =
    let a = m * up e * down d in
    let b = n * up d * down e in
    let h : b ≤ a = le→cross (fin false n d) (fin false m e) q p l in
    subst (λ (x : Float). T (finite x)) (sym (sub_is m e n d h))
    (rounds_under (a - b) (down e * down d) (m * up e) (down e) (mul-pos (down_pos e) (down_pos d)) (down_pos e)
    (le_trans (mul-le-mul_right (down e) (let z : a - b ≤ a = omega arith in z)) (le_of_eq (mul_assoc (m * up e) (down d) (down e) ∙ ap (λ (x : ℕ). m * up e * x) (mul_comm (down d) (down e)))))
    (own_round false m e F))

-- by a number from 1 on
abbrev unit : Float
unit = fin false 1 (pos 0)

div_by : (m : ℕ) (e : ℤ) (y : Float) → T (fits binary32 (fin false m e)) → T (le unit y) → T (finite (div binary32 (fin false m e) y))
unfolding le div
div_by m e nan F l = absurd l
div_by m e (inf true) F l = absurd l
div_by m e (inf false) F l = tt
div_by m e (fin true k d) F l = absurd (above_of_le unit (fin true k d) tt l)
div_by m e (fin false k d) F l =
    let p : T (positive (fin false k d)) = above_of_le unit (fin false k d) tt l in
    let K : 0 < k = ltb→lt 0 k p in
    let h : down d ≤ k * up d = omega (arith, le→cross unit (fin false k d) tt p l) in
    subst (λ (x : Float). T (finite x)) (sym (div_is m e k d K))
    (rounds_under (m * up e * down d) (k * up d * down e) (m * up e) (down e) (mul-pos (mul-pos K (up_pos d)) (down_pos e)) (down_pos e)
    (le_trans (le_of_eq (mul_assoc (m * up e) (down d) (down e))) (mul-le-mul_left (m * up e) (mul-le-mul_right (down e) h)))
    (own_round false m e F))

from_one : (n : ℕ) → 0 < n → T (le unit (of_int binary32 (pos n)))
unfolding of_int round
from_one n h = round_mono binary32 1 1 n 1 (zero-lt-suc 0) (zero-lt-suc 0) (omega arith)

pub div_finite : (total : Float) (n : ℕ) → T (fits binary32 total) → T (positive total) → 0 < n → T (finite (div binary32 total (of_int binary32 (pos n))))
div_finite nan n F p N = absurd p
div_finite (inf s) n F p N = absurd p
div_finite (fin true m e) n F p N = absurd p
div_finite (fin false m e) n F p N = div_by m e (of_int binary32 (pos n)) F (from_one n N)
