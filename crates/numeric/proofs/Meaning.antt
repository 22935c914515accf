-- `round_away` and `root_of` mean what document 01 says. Assumes nothing.
use Rattle.std.proofs.Common.{◌≡◌, ℕ, ◌+◌, ◌-◌, ◌*◌, ◌/◌, ◌^◌, ◌<◌, ◌≤◌, Bool, true, false, not, T, ltb, leb, sym, ap, ◌∙◌, subst, le_trans, le_of_eq, le_refl, lt_of_lt_of_le, le_of_lt, zero-lt-suc, mul_assoc, div-lt_iff_lt-mul, add-mul, mul-le-mul, le_antisymm, mul-pos, one-mul, zero-mul, mul-one, div-mul-le_self, mul_left_comm, add-one-le, arith, lit≤, ltb→lt, leb→le, nltb→le, pow_pos, pow_mono, pow-add, shl_lt, Float}
use native.Mathlib.Nat.{lt-div-mul-add}
use lib.Dec.{nleb→lt}
use lib.Ieee.{nan, inf, fin, binary32, fits}
use lib.Ieee.Fits.{round-fits}
use lib.Ieee.Bits.{of_bits-to_bits, to_bits-of_bits}
use lib.Ieee.Back.{round_whole, whole_unique}
use lib.Ieee.Digits.{back}
use lib.Ieee.Exact.{HasValue}
use Rattle.numeric.specs.Round.{round_away, nearest_whole}
use Rattle.numeric.specs.Root.{root_of}
use Rattle.numeric.specs.Meaning.{apart, NearestWhole, Meaning}
use Rattle.numeric.proofs.Units.{Units, units_of, rescale, same_size}
use Rattle.numeric.proofs.Whole.{nearest_same, by_value, whole, halves, itself}
use Rattle.numeric.proofs.RootLaws.{root_fits}
use Rattle.numeric.proofs.Nearest.{nearest_root, one_root}

-- ---- the whole number nearest to n / d, on plain numbers

-- how far two numbers are apart
abbrev gap : ℕ → ℕ → ℕ
gap a b = (a - b) + (b - a)

-- a whole number above another is so by at least d parts of 1 / d
above : (j k d : ℕ) → j < k → j * d + d ≤ k * d
above j k d h = le_trans (le_of_eq (ap (λ (z : ℕ). j * d + z) (sym (one-mul d)) ∙ sym (add-mul j 1 d))) (mul-le-mul (add-one-le h) (le_refl d))

module _ (n d : ℕ) (D : 0 < d) where
  abbrev k : ℕ
  k = nearest_whole n d

  reaches : 2 * (k * d) ≤ 2 * n + d
  reaches = le_trans (le_of_eq (sym (mul_left_comm k 2 d))) (div-mul-le_self (2 * n + d) (2 * d))

  ends : 2 * n < 2 * (k * d) + d
  ends =
      let h : 2 * n + d < k * (2 * d) + 2 * d = lt-div-mul-add (mul-pos (zero-lt-suc 1) D) in
      let e : k * (2 * d) ≡ 2 * (k * d) = mul_left_comm k 2 d in
      omega arith

  -- each way of comparing another whole number j with k, in parts of 1 / d
  with_order : (X : Type 0) (j : ℕ) → (j < k → j * d + d ≤ k * d → X) → (j ≡ k → X) → (k < j → k * d + d ≤ j * d → X) → X
  with_order X j f g h = go (ltb j k) (ltb k j) (ltb→lt j k) (nltb→le j k) (ltb→lt k j) (nltb→le k j)
    where
      go : (a b : Bool) → (T a → j < k) → (T (not a) → k ≤ j) → (T b → k < j) → (T (not b) → j ≤ k) → X
      go true b l m n o = f (l tt) (above j k d (l tt))
      go false true l m n o = h (n tt) (above k j d (n tt))
      go false false l m n o = g (le_antisymm (o tt) (m tt))

  near : (j : ℕ) → gap n (k * d) ≤ gap n (j * d)
  near j = with_order (gap n (k * d) ≤ gap n (j * d)) j (λ a b. omega (arith, reaches, ends)) (λ a. le_of_eq (ap (λ (z : ℕ). gap n (z * d)) (sym a))) (λ a b. omega (arith, reaches, ends))

  near_other : (j : ℕ) → gap n (k * d) ≤ n + j * d
  near_other j =
      with_order (gap n (k * d) ≤ n + j * d) 0 (λ a b. omega (arith, reaches, ends))
      (λ a. let e : k * d ≡ 0 = ap (λ (z : ℕ). z * d) (sym a) ∙ zero-mul d in omega arith) (λ a b. omega arith)

  away : (j : ℕ) → gap n (j * d) ≡ gap n (k * d) → j ≤ k
  away j e = with_order (j ≤ k) j (λ a b. le_of_lt a) le_of_eq (λ a b. absurd (omega (arith, reaches, ends)))

  away_other : (j : ℕ) → n + j * d ≡ gap n (k * d) → j ≤ k
  away_other j e = with_order (j ≤ k) j (λ a b. le_of_lt a) le_of_eq (λ a b. absurd (omega (arith, reaches, ends)))

-- ---- the f32 that `round_away` answers

-- it is that whole number, with x's sign
module _ (x : Float) (s : Bool) (n d : ℕ) (F : T (fits binary32 x)) (D : 0 < d) (v : HasValue x s n d) where
  U : Units x s
  U = units_of x s n d F v

  abbrev u : ℕ
  u = U.q * 2 ^ U.j

  same : nearest_whole u (2 ^ 149) ≡ nearest_whole n d
  same = nearest_same u (2 ^ 149) n d (pow_pos 149) D (sym (same_size x s s u (2 ^ 149) n d U.is v))

  -- from 2 ^ 23 on x is whole, and below it the whole number has at most 24 digits
  large : 149 ≤ U.j → HasValue (round_away x) s (nearest_whole u (2 ^ 149)) 1
  large h =
      let c = U.q * 2 ^ (U.j - 149) in
      let e : c * 2 ^ 149 ≡ u = mul_assoc U.q (2 ^ (U.j - 149)) (2 ^ 149) ∙ ap (λ (z : ℕ). U.q * z) (sym (pow-add 2 (U.j - 149) 149) ∙ ap (λ (z : ℕ). 2 ^ z) (back U.j 149 h)) in
      subst (λ (y : Float). HasValue y s (nearest_whole u (2 ^ 149)) 1) (sym (whole x s U.q U.j F U.few U.small h U.is))
      (subst (λ (z : ℕ). HasValue x s z 1) (sym (ap (λ (z : ℕ). nearest_whole z (2 ^ 149)) (sym e) ∙ itself c (2 ^ 149) (pow_pos 149))) (rescale x s u (2 ^ 149) c 1 (pow_pos 149) (e ∙ sym (mul-one u)) U.is))

  little : U.j < 149 → HasValue (round_away x) s (nearest_whole u (2 ^ 149)) 1
  little h = subst (λ (y : Float). HasValue y s (nearest_whole u (2 ^ 149)) 1) (sym (by_value x s u U.is)) (round_whole binary32 s (nearest_whole u (2 ^ 149)) few)
    where
      less : U.j < 149 → 24 + U.j ≤ 172
      less h = omega arith

      twice : (a b : ℕ) → a < b → 2 * a < 2 * b
      twice a b h = omega arith

      half : (z : ℕ) → z < 2 ^ 24 → (z + 1) / 2 ≤ 2 ^ 24
      half z h = omega arith

      few : nearest_whole u (2 ^ 149) ≤ 2 ^ 24
      few = le_trans (le_of_eq (halves u (2 ^ 149) (pow_pos 149))) (half _ ((div-lt_iff_lt-mul (pow_pos 149)).1 (lt_of_lt_of_le (twice u (2 ^ 172) (lt_of_lt_of_le (shl_lt 24 U.j U.few) (pow_mono (less h)))) (lit≤ tt))))

  is : HasValue (round_away x) s (nearest_whole n d) 1
  is = subst (λ (z : ℕ). HasValue (round_away x) s z 1) same (go (leb 149 U.j) (leb→le 149 U.j) (nleb→lt 149 U.j))
    where
      go : (b : Bool) → (T b → 149 ≤ U.j) → (T (not b) → U.j < 149) → HasValue (round_away x) s (nearest_whole u (2 ^ 149)) 1
      go true a b = large (a tt)
      go false a b = little (b tt)

nearest_of : (s t : Bool) (n d : ℕ) → 0 < d → (j : ℕ) → apart s n s (nearest_whole n d * d) ≤ apart s n t (j * d)
nearest_of true true n d D j = near n d D j
nearest_of true false n d D j = near_other n d D j
nearest_of false true n d D j = near_other n d D j
nearest_of false false n d D j = near n d D j

away_of : (s t : Bool) (n d : ℕ) → 0 < d → (j : ℕ) → apart s n t (j * d) ≡ apart s n s (nearest_whole n d * d) → j ≤ nearest_whole n d
away_of true true n d D j = away n d D j
away_of true false n d D j = away_other n d D j
away_of false true n d D j = away_other n d D j
away_of false false n d D j = away n d D j

nearest_whole_lem : (x : Float) (s : Bool) (n d : ℕ) → T (fits binary32 x) → 0 < d → HasValue x s n d → NearestWhole s n d (round_away x)
nearest_whole_lem x s n d F D v = record { whole = nearest_whole n d; is = is x s n d F D v; nearest = λ t j. nearest_of s t n d D j; away = λ t j. away_of s t n d D j }

-- of two nearest whole numbers each is as near as the other, and so no further from zero
one_whole : (s : Bool) (n d : ℕ) (y z : Float) (A : NearestWhole s n d y) (B : NearestWhole s n d z) → A.whole ≤ B.whole
one_whole s n d y z A B = B.away s A.whole (le_antisymm (A.nearest s B.whole) (B.nearest s A.whole))

rounded_fits : (x : Float) → T (fits binary32 (round_away x))
unfolding round_away fits
rounded_fits nan = tt
rounded_fits (inf s) = tt
rounded_fits (fin s m e) = round-fits binary32 s _ 1

-- ---- all of it

pub meaning : Meaning
meaning = record {
  counted = λ x s n d F v. let U = units_of x s n d F v in (U.q * 2 ^ U.j, U.is);
  rounds = nearest_whole_lem;
  rounded = λ x y s n d F G D v A. let B = nearest_whole_lem x s n d F D v in
      whole_unique binary32 y (round_away x) s B.whole G (rounded_fits x) (subst (λ (z : ℕ). HasValue y s z 1) (le_antisymm (one_whole s n d y (round_away x) A B) (one_whole s n d (round_away x) y B A)) A.is) B.is;
  roots = nearest_root;
  rooted = λ x y u F G P v A. one_root u y (root_of x) G (root_fits x F) A (nearest_root x u F P v);
  read = λ x F. of_bits-to_bits binary32 x F;
  written = to_bits-of_bits binary32;
}
