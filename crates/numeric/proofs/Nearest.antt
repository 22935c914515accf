-- That `root_of x` is the f32 nearest to the root of x, and the only one: the middle of it and any other f32 lies beyond the root. Assumes nothing.
use Rattle.std.proofs.Common.{◌≡◌, ℕ, zero, suc, ◌+◌, ◌-◌, ◌*◌, ◌/◌, ◌%◌, ◌^◌, ◌<◌, ◌≤◌, Bool, true, false, not, T, leb, ◌⊎◌, sym, ap, ◌∙◌, subst, inl, inr, le_trans, le_of_eq, le_refl, lt_of_lt_of_le, le_of_suc-le-suc, lt_of_le_of_lt, add-zero, le_of_lt, lt_irrefl, zero-lt-suc, mul_assoc, add-mul, eq-zero-or-pos, mul-le-mul, add_comm, mul-lt-mul_of_pos_right, mul-pos, lt_of_not-le, zero-mul, mul-one, not-le_of_lt, sub-le, add-one-le, arith, lit<, lit≤, leb→le, pow_pos, pow_mono, pow-add, shl_lt, Float}
use native.Mathlib.Nat.{mul-mul-mul_comm, eq_of_mul-eq-mul_right}
use lib.Dec.{nleb→lt}
use lib.Ieee.{nan, inf, fin, binary32, units, fits, eq}
use lib.Ieee.Fits.{down_pos}
use lib.Ieee.Exact.{HasValue, units_val}
use Rattle.numeric.specs.Bits.{none}
use Rattle.numeric.specs.Root.{whole_root, units_root, root_of}
use Rattle.numeric.specs.Meaning.{NearestRoot}
use Rattle.numeric.proofs.Patterns.{same_value, some_differs}
use Rattle.numeric.proofs.Units.{Units, units_of, same_size}
use Rattle.numeric.proofs.Squares.{Root, twice_square, whole_root_lem, above_middle, below_middle}
use Rattle.numeric.proofs.RootLaws.{quarter_suc, root_from, root_below, root_is_down, root_is_up, by_value}

-- y units are nearer to the root of w than any other f32 is: an f32 is q * 2 ^ j units with q below 2 ^ 24
abbrev pub Nearest : ℕ → ℕ → Type 0
Nearest w y = (q j : ℕ) → q < 16777216 → (y < q * 2 ^ j → 4 * w < (y + q * 2 ^ j) * (y + q * 2 ^ j)) × (q * 2 ^ j < y → (y + q * 2 ^ j) * (y + q * 2 ^ j) < 4 * w)

-- an f32 from 2 ^ 23 * 2 ^ k on is a multiple of 2 ^ k, so it lies at r * 2 ^ k or below, or at (r + 1) * 2 ^ k or above
sides : (q j k r : ℕ) → q < 16777216 → 8388608 ≤ r → (q * 2 ^ j ≤ r * 2 ^ k) ⊎ ((r + 1) * 2 ^ k ≤ q * 2 ^ j)
sides q j k r Q R = go (leb k j) (leb→le k j) (nleb→lt k j)
  where
    fewer : j < k → q * 2 ^ j ≤ r * 2 ^ k
    fewer h = le_of_lt (lt_of_lt_of_le (shl_lt 24 j Q) (le_trans (pow_mono (omega arith)) (le_trans (le_of_eq (pow-add 2 23 k)) (mul-le-mul R (le_refl (2 ^ k))))))

    split : (d : ℕ) → (d ≤ r) ⊎ (r + 1 ≤ d)
    split d = pick (leb d r) (leb→le d r) (nleb→lt d r)
      where
        pick : (b : Bool) → (T b → d ≤ r) → (T (not b) → r < d) → (d ≤ r) ⊎ (r + 1 ≤ d)
        pick true a b = inl (a tt)
        pick false a b = inr (add-one-le (b tt))

    go : (b : Bool) → (T b → k ≤ j) → (T (not b) → j < k) → (q * 2 ^ j ≤ r * 2 ^ k) ⊎ ((r + 1) * 2 ^ k ≤ q * 2 ^ j)
    go false a b = inl (fewer (b tt))
    go true a b =
        let d = q * 2 ^ (j - k) in
        let e : d * 2 ^ k ≡ q * 2 ^ j = mul_assoc q (2 ^ (j - k)) (2 ^ k) ∙ ap (λ (z : ℕ). q * z) (sym (pow-add 2 (j - k) k) ∙ ap (λ (z : ℕ). 2 ^ z) (join (a tt))) in
        elim (split d) [
          | inl l ↦ inl (le_trans (le_of_eq (sym e)) (mul-le-mul l (le_refl (2 ^ k))))
          | inr g ↦ inr (le_trans (mul-le-mul g (le_refl (2 ^ k))) (le_of_eq e))
        ]
      where
        join : k ≤ j → j - k + k ≡ j
        join h = omega arith

square_le : {a b : ℕ} → a ≤ b → a * a ≤ b * b
square_le h = mul-le-mul h h

square_less : (a b : ℕ) → a < b → a * a < b * b
square_less a b h = lt_of_le_of_lt (mul-le-mul (le_refl a) (le_of_lt h)) (mul-lt-mul_of_pos_right h (omega arith))

-- with r * 2 ^ k the root's leading digits
module _ (w k r : ℕ) (lo : r * 2 ^ k * (r * 2 ^ k) ≤ w) (hi : w < (r + 1) * 2 ^ k * ((r + 1) * 2 ^ k)) (ge : 8388608 ≤ r) where
  abbrev p : ℕ
  p = 2 ^ k

  quad : (x : ℕ) → (x + x) * (x + x) ≡ 4 * (x * x)
  quad x = ap (λ (z : ℕ). z * z) (two x) ∙ twice_square x
    where
      two : (x : ℕ) → x + x ≡ 2 * x
      two x = omega arith

  low : (r * p + r * p) * (r * p + r * p) ≤ 4 * w
  low = omega (arith, quad (r * p), lo)

  high : 4 * w < ((r + 1) * p + (r + 1) * p) * ((r + 1) * p + (r + 1) * p)
  high = omega (arith, quad ((r + 1) * p), hi)

  middle : r * p + (r + 1) * p ≡ (2 * r + 1) * p
  middle = sym (add-mul r (r + 1) p) ∙ ap (λ (z : ℕ). z * p) (omega arith)

  add : (x : ℕ) {a b : ℕ} → a ≤ b → x + a ≤ x + b
  add x h = omega arith

  less : (x a b : ℕ) → a < b → x + a < x + b
  less x a b h = omega arith

  -- where the root is less than r + 1 / 2 times 2 ^ k, and where it is more
  pub nearest_down : 4 * w < (2 * r + 1) * p * ((2 * r + 1) * p) → Nearest w (r * p)
  nearest_down h q j Q = (
    (λ a. elim (sides q j k r Q ge) [
      | inl l ↦ absurd (not-le_of_lt a l)
      | inr g ↦ lt_of_lt_of_le h (square_le (le_trans (le_of_eq (sym middle)) (add (r * p) g)))
    ]),
    (λ a. lt_of_lt_of_le (square_less _ _ (less (r * p) _ _ a)) low),
  )

  pub nearest_up : (2 * r + 1) * p * ((2 * r + 1) * p) < 4 * w → Nearest w ((r + 1) * p)
  nearest_up h q j Q = (
    (λ a. lt_of_lt_of_le high (square_le (add ((r + 1) * p) (le_of_lt a)))),
    (λ a. elim (sides q j k r Q ge) [
      | inl l ↦ lt_of_le_of_lt (square_le (le_trans (le_trans (add ((r + 1) * p) l) (le_of_eq (add_comm ((r + 1) * p) (r * p)))) (le_of_eq middle))) h
      | inr g ↦ absurd (not-le_of_lt a g)
    ]),
  )

-- ---- w as n * 4 ^ k, with 47 or 48 digits in n

record Scaled (w : ℕ) : Type 0 where
  n : ℕ
  k : ℕ
  lo : 70368744177664 ≤ n
  hi : n < 281474976710656
  is : n * (2 ^ k * 2 ^ k) ≡ w

scaled : (k n w : ℕ) → n < 281474976710656 → 70368744177664 ≤ w → n * (2 ^ k * 2 ^ k) ≡ w → Scaled w
scaled zero n w h g e = record { n = n; k = 0; lo = le_trans g (le_of_eq (sym e ∙ mul-one n)); hi = h; is = e }
scaled (suc k) n w h g e = go (leb 70368744177664 n) (leb→le 70368744177664 n) (nleb→lt 70368744177664 n) (λ l. scaled k (n * 4) w l g (quarter_suc n k ∙ e))
  where
    go : (b : Bool) → (T b → 70368744177664 ≤ n) → (T (not b) → n < 70368744177664) → (n * 4 < 281474976710656 → Scaled w) → Scaled w
    go true a b f = record { n = n; k = suc k; lo = a tt; hi = h; is = e }
    go false a b f = let l = b tt in f (omega arith)

-- of an f32, q * 2 ^ j units: its square root's square, in units, is q * 2 ^ (j + 149)
of_units : (q j : ℕ) → q < 16777216 → 0 < q * 2 ^ j → Scaled (q * 2 ^ j * 2 ^ 149)
of_units q j Q P =
    let t = j + 149 in
    scaled (t / 2) (q * 2 ^ (t % 2)) (q * 2 ^ j * 2 ^ 149) (lt_of_le_of_lt (mul-le-mul (le_refl q) (pow_mono (rest t))) (lt_of_lt_of_le (mul-lt-mul_of_pos_right Q (pow_pos 1)) (lit≤ tt)))
    (le_trans (lit≤ tt) (mul-le-mul P (le_refl (2 ^ 149))))
    (mul_assoc q (2 ^ (t % 2)) (2 ^ (t / 2) * 2 ^ (t / 2)) ∙ ap (λ (z : ℕ). q * z) (ap (λ (z : ℕ). 2 ^ (t % 2) * z) (sym (pow-add 2 (t / 2) (t / 2))) ∙ sym (pow-add 2 (t % 2) (t / 2 + t / 2)) ∙ ap (λ (z : ℕ). 2 ^ z) (halves t) ∙ pow-add 2 j 149) ∙ sym (mul_assoc q (2 ^ j) (2 ^ 149)))
  where
    rest : (t : ℕ) → t % 2 ≤ 1
    rest t = omega arith

    halves : (t : ℕ) → t % 2 + (t / 2 + t / 2) ≡ t
    halves t = omega arith

-- the root's exponent is no more than a pattern's field can say
few : (n k w : ℕ) → 70368744177664 ≤ n → n * (2 ^ k * 2 ^ k) ≡ w → w < 2 ^ 426 → k ≤ 201
few n k w lo e h = le_of_suc-le-suc (lt_of_not-le (λ (g : 202 ≤ k). not-le_of_lt h (le_trans (lit≤ tt) (le_trans (mul-le-mul lo (mul-le-mul (pow_mono g) (pow_mono g))) (le_of_eq e)))))

-- ---- the f32 that `units_root` answers

record NearestUnits (w : ℕ) (y : Float) : Type 0 where
  units_y : ℕ
  is : HasValue y false units_y (2 ^ 149)
  nearest : Nearest w units_y

module _ (n k : ℕ) (ge : 70368744177664 ≤ n) (lt : n < 281474976710656) (c : k ≤ 201) where
  abbrev r : ℕ
  r = whole_root n

  R : Root n r
  R = whole_root_lem n

  abbrev w : ℕ
  w = n * (2 ^ k * 2 ^ k)

  lo : r * 2 ^ k * (r * 2 ^ k) ≤ w
  lo = le_trans (le_of_eq (mul-mul-mul_comm r (2 ^ k) r (2 ^ k))) (mul-le-mul R.0 (le_refl (2 ^ k * 2 ^ k)))

  hi : w < (r + 1) * 2 ^ k * ((r + 1) * 2 ^ k)
  hi = lt_of_lt_of_le (mul-lt-mul_of_pos_right R.1 (mul-pos (pow_pos k) (pow_pos k))) (le_of_eq (sym (mul-mul-mul_comm (r + 1) (2 ^ k) (r + 1) (2 ^ k))))

  -- of q * 2 ^ k units, with q the leading digits
  as_units : (q : ℕ) → q ≤ 16777216 → units_root w ≡ units binary32 false q k → Nearest w (q * 2 ^ k) → NearestUnits w (units_root w)
  as_units q h e N = record {
    units_y = q * 2 ^ k;
    is = subst (λ (y : Float). HasValue y false (q * 2 ^ k) (2 ^ 149)) (sym e) (units_val binary32 false q k (lt_of_le_of_lt (mul-le-mul h (pow_mono c)) (lit< tt)));
    nearest = N;
  }

  nearest_units : NearestUnits w (units_root w)
  nearest_units = go (leb (n - r * r) r) (leb→le (n - r * r) r) (nleb→lt (n - r * r) r)
    where
      go : (b : Bool) → (T b → n - r * r ≤ r) → (T (not b) → r < n - r * r) → NearestUnits w (units_root w)
      go true h g = as_units r (le_of_lt (root_below n k r R ge lt c)) (root_is_down n k r R ge lt c (h tt)) (nearest_down w k r lo hi (root_from n k r R ge lt c) (below_middle n k r R (whole_root w) (whole_root_lem w) (h tt)))
      go false h g = as_units (r + 1) (add-one-le (root_below n k r R ge lt c)) (root_is_up n k r R ge lt c (g tt)) (nearest_up w k r lo hi (root_from n k r R ge lt c) (above_middle n k r R (whole_root w) (whole_root_lem w) (g tt)))

-- ---- the root of an f32

-- an f32 of w units is q * 2 ^ j of them
counted : (z : Float) (w : ℕ) (U : Units z false) → HasValue z false w (2 ^ 149) → U.q * 2 ^ U.j ≡ w
counted z w U v = eq_of_mul-eq-mul_right (2 ^ 149) (pow_pos 149) (U.q * 2 ^ U.j) w (same_size z false false w (2 ^ 149) (U.q * 2 ^ U.j) (2 ^ 149) v U.is)

not_zero : (x : Float) (u : ℕ) → 0 < u → HasValue x false u (2 ^ 149) → eq x none ≡ false
not_zero nan u h v = absurd v
not_zero (inf s) u h v = absurd v
not_zero (fin s zero e) u h v = absurd (lt_irrefl 0 (lt_of_lt_of_le (mul-pos h (down_pos e)) (le_of_eq (sym v.1 ∙ simp zero-mul))))
not_zero (fin s (suc m) e) u h v = some_differs s m e

module _ (x : Float) (u : ℕ) (F : T (fits binary32 x)) (P : 0 < u) (v : HasValue x false u (2 ^ 149)) where
  U : Units x false
  U = units_of x false u (2 ^ 149) F v

  S : Scaled (u * 2 ^ 149)
  S = subst (λ (z : ℕ). Scaled (z * 2 ^ 149)) (counted x u U v) (of_units U.q U.j U.few (lt_of_lt_of_le P (le_of_eq (sym (counted x u U v)))))

  small : u * 2 ^ 149 < 2 ^ 426
  small = mul-lt-mul_of_pos_right (lt_of_le_of_lt (le_of_eq (sym (counted x u U v))) U.small) (pow_pos 149)

  N : NearestUnits (u * 2 ^ 149) (root_of x)
  N = subst (NearestUnits (u * 2 ^ 149)) (sym (by_value x u (not_zero x u P v) v))
      (subst (λ (z : ℕ). NearestUnits z (units_root z)) S.is (nearest_units S.n S.k S.lo S.hi (few S.n S.k (u * 2 ^ 149) S.lo S.is small)))

  against : (P : ℕ → Type 0) → ((q j : ℕ) → q < 16777216 → P (q * 2 ^ j)) → (z : Float) (w : ℕ) → T (fits binary32 z) → HasValue z false w (2 ^ 149) → P w
  against P f z w G h = let Z = units_of z false w (2 ^ 149) G h in subst P (counted z w Z h) (f Z.q Z.j Z.few)

  -- half of y lies below the root, by way of +0
  half : N.units_y * N.units_y < 4 * (u * 2 ^ 149)
  half = elim (eq-zero-or-pos N.units_y) [
    | inl e ↦ rw e (mul-pos (zero-lt-suc 3) (mul-pos P (pow_pos 149)))
    | inr p ↦ subst (λ (n : ℕ). n * n < 4 * (u * 2 ^ 149)) (add-zero N.units_y) ((N.nearest 0 0 (zero-lt-suc _)).1 p)
  ]

  pub nearest_root : NearestRoot u (root_of x)
  nearest_root = record {
    units = N.units_y;
    is = N.is;
    above = against (λ (w : ℕ). N.units_y < w → 4 * (u * 2 ^ 149) < (N.units_y + w) * (N.units_y + w)) (λ q j Q. (N.nearest q j Q).0);
    below = against (λ (w : ℕ). w < N.units_y → (N.units_y + w) * (N.units_y + w) < 4 * (u * 2 ^ 149)) (λ q j Q. (N.nearest q j Q).1);
    negative = λ z w G h. lt_of_le_of_lt (square_le (sub-le N.units_y w)) half;
  }

-- of two nearest f32 neither is below the other, since their middle cannot lie on both sides of the root
none_below : (u : ℕ) (y z : Float) → T (fits binary32 y) → T (fits binary32 z) → (A : NearestRoot u y) (B : NearestRoot u z) → A.units < B.units → ⊥
none_below u y z F G A B h =
    lt_irrefl (4 * (u * 2 ^ 149))
    (lt_of_lt_of_le (A.above z B.units G B.is h)
    (le_trans (le_of_eq (ap (λ (n : ℕ). n * n) (add_comm A.units B.units))) (le_of_lt (B.below y A.units F A.is h))))

pub one_root : (u : ℕ) (y z : Float) → T (fits binary32 y) → T (fits binary32 z) → NearestRoot u y → NearestRoot u z → y ≡ z
one_root u y z F G A B =
    same_value y z false B.units F G (subst (λ (n : ℕ). HasValue y false n (2 ^ 149)) (level A.units B.units (none_below u y z F G A B) (none_below u z y G F B A)) A.is) B.is
  where
    level : (a b : ℕ) → (a < b → ⊥) → (b < a → ⊥) → a ≡ b
    level a b f g = omega arith
