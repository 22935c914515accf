-- What `to_u32` cites: the cast to a u32 from 2 ^ 32 on, between -1 and 2 ^ 32, and elsewhere. Assumes nothing.
use Rattle.std.proofs.lemmas.Bool.{false≢true, eqb-false, lt-leb}
use Rattle.std.proofs.Common.{◌≡◌, ℕ, ◌+◌, ◌*◌, ◌/◌, ◌^◌, ◌<◌, ◌≤◌, Bool, true, false, ◌&&◌, ◌||◌, T, eqb, ltb, leb, ℤ, pos, sym, refl, ◌∙◌, true≢false, lt_irrefl, div-lt_iff_lt-mul, le-div_iff_mul-le, arith, lit<, eqb→eq, lt→ltb, ltb-false, ltb-true, eqb-true, le-leb, leb-false, leb-true, Float}
use lib.Ieee.{nan, inf, fin, binary32, up, down, neg, lt, eq, le, of_bits, to_unsigned}
use lib.Ieee.Fits.{down_pos, and_r}
use Rattle.numeric.specs.Bits.{one}
use Rattle.numeric.specs.Round.{cast_u32}
use Rattle.numeric.proofs.Patterns.{yes}

-- 2 ^ 32
abbrev pub limit : Float
limit = of_bits binary32 0x4f800000

-- `le` of two numbers with clear signs is one test of their fractions.
pub le_is : (a b : ℕ) → (ltb a b || (eqb a b && true)) ≡ leb a b
le_is a b = go (ltb a b) (eqb a b) refl refl
  where
    go : (p q : Bool) → ltb a b ≡ p → eqb a b ≡ q → (p || (q && true)) ≡ leb a b
    go true q h k = sym (le-leb a b (omega (arith, ltb-true a b h)))
    go false true h k = sym (le-leb a b (omega (arith, eqb-true a b k)))
    go false false h k = sym (lt-leb a b (omega (arith, ltb-false a b h, eqb-false a b k)))

-- What does not reach 2 ^ 32 has less than that many of its denominator.
under : (m : ℕ) (e : ℤ) → le limit (fin false m e) ≡ false → m * up e * 1 < 1 * 2 ^ 32 * down e
unfolding le lt eq of_bits
under m e h = leb-false (1 * 2 ^ 32 * down e) (m * up e * 1) (sym (le_is (1 * 2 ^ 32 * down e) (m * up e * 1)) ∙ h)

pub from_limit : (x : Float) → le limit x ≡ true → 4294967295 ≡ cast_u32 x
unfolding le lt eq to_unsigned of_bits
from_limit nan h = absurd (false≢true h)
from_limit (inf true) h = absurd (false≢true h)
from_limit (inf false) h = refl
from_limit (fin true m e) h =
    let z : 1 * 2 ^ 32 * down e ≡ 0 = eqb→eq (1 * 2 ^ 32 * down e) 0 (and_r (eqb (1 * 2 ^ 32 * down e) (m * up e * 1)) _ (yes h)) in
    absurd (lt_irrefl 0 (omega (arith, down_pos e)))
from_limit (fin false m e) h =
    let q : 1 * 2 ^ 32 * down e ≤ m * up e * 1 = leb-true _ _ (sym (le_is (1 * 2 ^ 32 * down e) (m * up e * 1)) ∙ h) in
    let p : 2 ^ 32 ≤ m * up e / down e = (le-div_iff_mul-le (down_pos e)).1 (omega arith) in
    omega arith

-- What is neither there nor above -1 is a NaN or negative.
pub up_to_minus_one : (x : Float) → le limit x ≡ false → lt (neg one) x ≡ false → 0 ≡ cast_u32 x
unfolding le lt eq neg to_unsigned of_bits
up_to_minus_one nan h k = refl
up_to_minus_one (inf true) h k = refl
up_to_minus_one (inf false) h k = absurd (true≢false h)
up_to_minus_one (fin true m e) h k = refl
up_to_minus_one (fin false m e) h k =
    let q : 1 * 1 * down e + m * up e * 1 ≤ 0 = ltb-false 0 (1 * 1 * down e + m * up e * 1) k in
    absurd (lt_irrefl 0 (omega (arith, down_pos e)))

-- Below 2 ^ 32 the cast to a u64 is a u32, and the same.
pub below_limit : (x : Float) → le limit x ≡ false → (to_unsigned 64 x < 2 ^ 32) × (to_unsigned 64 x ≡ cast_u32 x)
unfolding le lt eq to_unsigned of_bits
below_limit nan h = (lit< tt, refl)
below_limit (inf true) h = (lit< tt, refl)
below_limit (inf false) h = absurd (true≢false h)
below_limit (fin true m e) h = (lit< tt, refl)
below_limit (fin false m e) h =
    let q : m * up e / down e < 2 ^ 32 = (div-lt_iff_lt-mul (down_pos e)).1 (omega (arith, under m e h)) in
    (omega arith, omega arith)

-- What is above -1 as well is below 2 ^ 64.
pub above_minus_one : (x : Float) → le limit x ≡ false → lt (neg one) x ≡ true → T (lt x (fin false 1 (pos 64)))
unfolding lt neg of_bits
above_minus_one nan h k = absurd (false≢true k)
above_minus_one (inf true) h k = absurd (false≢true k)
above_minus_one (inf false) h k = absurd (true≢false (unfold le eq in h))
above_minus_one (fin true m e) h k = lt→ltb 0 (m * up e * 1 + 1 * 2 ^ 64 * down e) (omega (arith, down_pos e))
above_minus_one (fin false m e) h k = lt→ltb (m * up e * 1) (1 * 2 ^ 64 * down e) (omega (arith, under m e h))
