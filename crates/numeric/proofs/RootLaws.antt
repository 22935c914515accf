-- What the functions of `roots` cite. Assumes nothing.
use Rattle.std.proofs.lemmas.Bool.{false≢true}
use Rattle.std.proofs.Common.{◌≡◌, ℕ, zero, suc, ◌+◌, ◌-◌, ◌*◌, ◌/◌, ◌%◌, ◌^◌, ◌<◌, ◌≤◌, Bool, true, false, cond, not, T, eqb, ltb, leb, sym, refl, ap, ◌∙◌, subst, inl, inr, true≢false, le_trans, le_of_eq, lt_of_le_of_lt, le_of_lt, mod-eq_of_lt, zero-lt-suc, mul_assoc, eq-zero-or-pos, mul-le-mul, add_comm, eq-or-lt_of_le, one-mul, mul-one, not-le_of_lt, mul-div_cancel, add-one, add-one-le, arith, lit<, ltb→lt, leb→le, pow_mono, pow-add, le-ltb, lt-ltb, leb-false, Float}
use native.Mathlib.Nat.{pow-succ'}
use lib.Dec.{nleb→lt, eqb-suc-zero}
use lib.Ieee.{nan, inf, fin, binary32, up, down, size, odd, units, fits, is_nan, lt, eq, of_fields, of_bits}
use lib.Ieee.Fits.{odd-fits, inf-fits, down_pos, kept-lt}
use lib.Ieee.Bits.{of_bits-to_bits, of_bits-fits}
use lib.Ieee.Exact.{HasValue, units_val}
use Rattle.numeric.specs.Bits.{none, field_units, pattern_units}
use Rattle.numeric.specs.Root.{whole_root, nearer_root, units_root, root_of}
use Rattle.numeric.proofs.Patterns.{is_nan_lem, pattern_value, same_value, bits, x_is, value, negative, bits_negative, above_zero, zero_equals, some_differs}
use Rattle.numeric.proofs.Squares.{Root, Near, near_down, near_up, twice_square, whole_root_lem, root_ge, root_lt, leading, dropped, above_middle, below_middle}

-- ---- the pattern of q * 2 ^ k units, for a q from 2 ^ 23 to 2 ^ 24
units_fit : (q k : ℕ) → q ≤ 2 ^ 24 → T (fits binary32 (units binary32 false q k))
unfolding units
units_fit q k h = go (ltb (q * 2 ^ k) (2 ^ 277)) (ltb→lt (q * 2 ^ k) (2 ^ 277))
  where
    go : (b : Bool) → (T b → q * 2 ^ k < 2 ^ 277) → T (fits binary32 (cond b (odd 25 false q k 149) (inf false)))
    go true l = odd-fits binary32 25 false q k (lt_of_le_of_lt h (lit< tt)) h (l tt)
    go false l = inf-fits binary32 false

pub pattern_of : (q k : ℕ) → 8388608 ≤ q → q ≤ 16777216 → k ≤ 201 → of_bits binary32 (k * 8388608 + q) ≡ units binary32 false q k
pattern_of q k a b c =
    same_value (of_bits binary32 (k * 8388608 + q)) (units binary32 false q k) false (q * 2 ^ k) (of_bits-fits binary32 (k * 8388608 + q)) (units_fit q k b)
    (elim (eq-or-lt_of_le b) [
      | inl e ↦
          subst (λ (z : ℕ). HasValue (of_bits binary32 (k * 8388608 + z)) false (z * 2 ^ k) (2 ^ 149)) (sym e)
          (subst (λ (z : ℕ). HasValue (of_bits binary32 z) false (16777216 * 2 ^ k) (2 ^ 149)) (omega arith)
          (subst (λ (z : ℕ). HasValue (of_bits binary32 (suc (suc k) * 8388608 + 0)) false z (2 ^ 149)) (ap (λ (z : ℕ). 8388608 * z) (pow-succ' 2 k) ∙ sym (mul_assoc 8388608 2 (2 ^ k)))
          (pattern_value (suc (suc k)) 0 (omega arith) (zero-lt-suc _))))
      | inr l ↦
          subst (λ (z : ℕ). HasValue (of_bits binary32 (k * 8388608 + q)) false (z * 2 ^ k) (2 ^ 149)) (lead a)
          (subst (λ (z : ℕ). HasValue (of_bits binary32 z) false ((8388608 + (q - 8388608)) * 2 ^ k) (2 ^ 149)) (omega arith)
          (pattern_value (suc k) (q - 8388608) (omega arith) (omega arith)))
    ])
    (units_val binary32 false q k (lt_of_le_of_lt (mul-le-mul b (pow_mono c)) (lit< tt)))
  where
    lead : 8388608 ≤ q → 8388608 + (q - 8388608) ≡ q
    lead h = omega arith

-- ---- the root of n * 4 ^ k, by the whole root of n
pub units_root_is : (w : ℕ) → units_root w ≡ units binary32 false (nearer_root w (whole_root w / 2 ^ (size (whole_root w) - 24)) (size (whole_root w) - 24)) (size (whole_root w) - 24)
unfolding units_root
units_root_is w = refl

-- the 24 leading digits, or one more, are an f32's
units_root_fits : (w : ℕ) → T (fits binary32 (units_root w))
units_root_fits w =
    let f = whole_root w in
    let k = size f - 24 in
    subst (λ (y : Float). T (fits binary32 y)) (sym (units_root_is w)) (units_fit (nearer_root w (f / 2 ^ k) k) k (most (ltb ((2 * (f / 2 ^ k) + 1) * 2 ^ k * ((2 * (f / 2 ^ k) + 1) * 2 ^ k)) (4 * w)) (f / 2 ^ k) (kept-lt 24 f)))
  where
    most : (b : Bool) (q : ℕ) → q < 2 ^ 24 → cond b (q + 1) q ≤ 2 ^ 24
    most true q h = add-one-le h
    most false q h = le_of_lt h

pub root_fits : (x : Float) → T (fits binary32 x) → T (fits binary32 (root_of x))
unfolding root_of fits
root_fits nan F = tt
root_fits (inf true) F = tt
root_fits (inf false) F = tt
root_fits (fin s zero e) F = F
root_fits (fin true (suc m) e) F = rw eqb-suc-zero tt
root_fits (fin false (suc m) e) F = rw eqb-suc-zero (units_root_fits (suc m * up e * 2 ^ 149 / down e * 2 ^ 149))

module _ (n k r : ℕ) (R : Root n r) (lo : 70368744177664 ≤ n) (hi : n < 281474976710656) (c : k ≤ 201) where
  abbrev w : ℕ
  w = n * (2 ^ k * 2 ^ k)

  abbrev f : ℕ
  f = whole_root w

  pub root_from : 8388608 ≤ r
  root_from = root_ge n r R lo

  pub root_below : r < 16777216
  root_below = root_lt n r R hi

  is : units_root w ≡ units binary32 false (nearer_root w r k) k
  is = units_root_is w ∙ rw (dropped n k r R f (whole_root_lem w) root_from root_below, leading n k r R f (whole_root_lem w))

  pub root_is_down : n - r * r ≤ r → units_root w ≡ units binary32 false r k
  root_is_down h = is ∙ rw (le-ltb _ _ (le_of_lt (below_middle n k r R f (whole_root_lem w) h)))

  pub root_is_up : r < n - r * r → units_root w ≡ units binary32 false (r + 1) k
  root_is_up h = is ∙ rw (lt-ltb _ _ (above_middle n k r R f (whole_root_lem w) h))

  pub root_down : n - r * r ≤ r → of_bits binary32 (k * 8388608 + r) ≡ units_root w
  root_down h = pattern_of r k root_from (le_of_lt root_below) c ∙ sym (root_is_down h)

  pub root_up : r < n - r * r → of_bits binary32 (k * 8388608 + (r + 1)) ≡ units_root w
  root_up h = pattern_of (r + 1) k (omega (arith, root_from)) (omega (arith, root_below)) c ∙ sym (root_is_up h)

-- the nearest whole number has 24 digits, or is 2 ^ 24
pub root_near : (n k q : ℕ) → Near n q → 70368744177664 ≤ n → n < 281474976710656 → k ≤ 201 → (of_bits binary32 (k * 8388608 + q) ≡ units_root (n * (2 ^ k * 2 ^ k))) × (q ≤ 16777216)
root_near n k q N lo hi c = go (leb (q * q) n) (leb→le (q * q) n) (nleb→lt (q * q) n)
  where
    is : ℕ → Type 0
    is q = (of_bits binary32 (k * 8388608 + q) ≡ units_root (n * (2 ^ k * 2 ^ k))) × (q ≤ 16777216)

    up : (q : ℕ) → Near n q → n < q * q → is q
    up zero N g = absurd (omega arith)
    up (suc r) N g =
        let d = near_up n r (rw (← add-one r) at N) (rw (← add-one r) at g) in
        subst is (add-one r) (root_up n k r d.0 lo hi c d.1, omega (arith, root_lt n r d.0 hi))

    go : (b : Bool) → (T b → q * q ≤ n) → (T (not b) → n < q * q) → is q
    go true l g = let d = near_down n q N (l tt) in (root_down n k q d.0 lo hi c d.1, le_of_lt (root_lt n q d.0 hi))
    go false l g = up q N (g tt)

-- ---- a turn of the loop: n times 4, and k less 1
pub some_left : (m h : ℕ) → m < 70368744177664 → 70368744177664 ≤ m * (2 ^ h * 2 ^ h) → 1 ≤ h
some_left m zero a b = absurd (not-le_of_lt a (le_trans b (le_of_eq (mul-one m))))
some_left m (suc h) a b = omega arith

pub quarter_suc : (m h : ℕ) → m * 4 * (2 ^ h * 2 ^ h) ≡ m * (2 ^ suc h * 2 ^ suc h)
quarter_suc m h = mul_assoc m 4 (2 ^ h * 2 ^ h) ∙ ap (λ (z : ℕ). m * z) (sym (twice_square (2 ^ h)) ∙ ap (λ (z : ℕ). z * z) (sym (pow-succ' 2 h)))

pub quarter : (m h : ℕ) → 1 ≤ h → m * 4 * (2 ^ (h - 1) * 2 ^ (h - 1)) ≡ m * (2 ^ h * 2 ^ h)
quarter m h a = quarter_suc m (h - 1) ∙ ap (λ (z : ℕ). m * (2 ^ z * 2 ^ z)) (back h a)
  where
    back : (h : ℕ) → 1 ≤ h → suc (h - 1) ≡ h
    back h a = omega arith

-- ---- the two ways of `root_pattern`
pub enough : (n k : ℕ) → 0 < n → 74 ≤ k → 70368744177664 ≤ n * (2 ^ k * 2 ^ k)
enough n k h g =
    let s : 23 ≤ k = omega arith in
    le_trans (le_of_eq (sym (one-mul 70368744177664))) (mul-le-mul h (mul-le-mul (pow_mono s) (pow_mono s)))

pub subnormal : (t : ℕ) → t * 2 * (2 ^ 74 * 2 ^ 74) ≡ field_units 0 t * 2 ^ 149
subnormal t = mul_assoc t 2 (2 ^ 74 * 2 ^ 74)

pub normal_field : (t x : ℕ) → (x ≡ 0 → ⊥) → (t + 8388608) * 2 ^ (24 - x % 2) * (2 ^ ((x + 1) / 2 + 62) * 2 ^ ((x + 1) / 2 + 62)) ≡ field_units x t * 2 ^ 149
normal_field t zero z = absurd (z refl)
normal_field t (suc j) z =
    let p = 24 - suc j % 2 in
    let k = (suc j + 1) / 2 + 62 in
    mul_assoc (t + 8388608) (2 ^ p) (2 ^ k * 2 ^ k)
    ∙ ap (λ (q : ℕ). q * (2 ^ p * (2 ^ k * 2 ^ k))) (add_comm t 8388608)
    ∙ ap (λ (q : ℕ). (8388608 + t) * q) (ap (λ (q : ℕ). 2 ^ p * q) (sym (pow-add 2 k k)) ∙ sym (pow-add 2 p (k + k)) ∙ ap (λ (q : ℕ). 2 ^ q) (omega arith) ∙ pow-add 2 j 149)
    ∙ sym (mul_assoc (8388608 + t) (2 ^ j) (2 ^ 149))

-- a shift of 24 digits by 24 or 23 places loses none
pub shifted : (n p : ℕ) → 8388608 ≤ n → n < 16777216 → p < 2 → (n * 2 ^ (24 - p) % 2 ^ 64 ≡ n * 2 ^ (24 - p)) × (70368744177664 ≤ n * 2 ^ (24 - p) % 2 ^ 64) × (n * 2 ^ (24 - p) % 2 ^ 64 < 281474976710656)
shifted n zero a b c = (omega arith, omega arith, omega arith)
shifted n (suc zero) a b c = (omega arith, omega arith, omega arith)
shifted n (suc (suc p)) a b c = (omega arith, omega arith, omega arith)

-- ---- `root_of` in the order of `root`'s tests

pub of_nan : (x : Float) → true ≡ is_nan x → x ≡ root_of x
unfolding root_of
of_nan x h = rw (is_nan_lem x h)

pub of_zero : (x : Float) → eq x none ≡ true → x ≡ root_of x
unfolding eq root_of of_bits
of_zero nan h = refl
of_zero (inf s) h = absurd (false≢true h)
of_zero (fin s zero e) h = refl
of_zero (fin s (suc m) e) h = absurd (true≢false (sym h ∙ some_differs s m e))

pub of_negative : (x : Float) → negative x ≡ true → eq x none ≡ false → nan ≡ root_of x
unfolding root_of
of_negative nan h k = refl
of_negative (inf s) h k = rw h
of_negative (fin s zero e) h k = absurd (true≢false (sym (zero_equals s e) ∙ k))
of_negative (fin s (suc m) e) h k = rw (eqb-suc-zero, h)

pub by_value : (x : Float) (u : ℕ) → eq x none ≡ false → HasValue x false u (2 ^ 149) → root_of x ≡ units_root (u * 2 ^ 149)
unfolding root_of
by_value nan u h v = absurd v
by_value (inf s) u h v = absurd v
by_value (fin s zero e) u h v = absurd (true≢false (sym (zero_equals s e) ∙ h))
by_value (fin s (suc m) e) u h v = rw (eqb-suc-zero, v.0, v.1, mul-div_cancel u (down_pos e))

-- the field of all ones
top : (t : ℕ) → of_fields binary32 false 255 t ≡ root_of (of_fields binary32 false 255 t)
unfolding root_of of_fields
top t = go (eqb t 0)
  where
    go : (b : Bool) → cond b (inf false) nan ≡ root_of (cond b (inf false) nan)
    go true = refl
    go false = refl

-- neither a NaN, nor a zero, nor below zero
module _ (x : Float) (F : T (fits binary32 x)) (number : is_nan x ≡ false) (other : eq x none ≡ false) (above : lt x none ≡ false) where
  clear : leb 2147483648 (bits x) ≡ false
  clear = sym (bits_negative x F number) ∙ above_zero x above other

  low : bits x < 2147483648
  low = leb-false 2147483648 (bits x) clear

  pub of_infinity : 2139095040 ≤ bits x → x ≡ root_of x
  of_infinity h =
      let l = low in
      let f : bits x / 8388608 ≡ 255 = omega arith in
      let i : x ≡ of_fields binary32 false 255 (bits x % 2147483648 % 8388608) = x_is x F ∙ rw (clear, mod-eq_of_lt low, f) in
      i ∙ top _ ∙ ap root_of (sym i)

  pub some_bits : 0 < bits x
  some_bits = elim (eq-zero-or-pos (bits x)) [ inl e ↦ absurd (not_zero (sym (of_bits-to_bits binary32 x F) ∙ ap (of_bits binary32) e)) | inr p ↦ p ]
    where
      not_zero : x ≡ none → ⊥
      not_zero e = unfold eq of_bits in true≢false (subst (λ (y : Float). eq y none ≡ false) e other)

  pub by_bits : bits x < 2139095040 → root_of x ≡ units_root (pattern_units (bits x) * 2 ^ 149)
  by_bits h = by_value x (pattern_units (bits x)) other (rw (clear, mod-eq_of_lt low) at (value x F (rw (mod-eq_of_lt low) h)))
