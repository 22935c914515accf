-- What is read is what would be written: a list that reads as a number is that number's digits, or its decimal; and how far such a list goes, and which bytes it has not.
-- Assumes nothing.
use Rattle.std.proofs.lemmas.Bool.{eqb-false}
use Rattle.std.proofs.Common.{ℕ, zero, suc, ◌+◌, ◌-◌, ◌*◌, ◌/◌, ◌%◌, ◌^◌, ◌≤◌, ◌<◌, ◌≡◌, refl, ap, Bool, true, false, cond, Option, Some, None, List, [], ◌∷◌, ◌++◌, div-lt_iff_lt-mul, le-div_iff_mul-le, div-one, mod-eq_of_lt, pow-suc, arith, length, length-append, eqb, leb, ltb, lt-ltb, le-ltb, ne_eqb, ltb-true, ltb-false, leb-true, eqb-true}
use Rattle.std.proofs.Math.Nat.{div-div-eq-div-mul, div-eq_of_lt, mul-add-div_right, mul-add-mod_self_right, pow-succ', pow-zero, one-le-pow}
use Rattle.fields.specs.Read.{before, digit_of, onward, bounded, number_of, hex_of, decimal_of}
use Rattle.fields.specs.Write.{glyph_of, digits_of, places_of, text_of}
use Rattle.fields.proofs.Writing.{places_one, length_digits}

glyph_digit : (x : ℕ) → digit_of x < 16 → glyph_of (digit_of x) ≡ x
unfolding digit_of glyph_of
glyph_digit x = go (ltb x 48) (leb x 57) (ltb x 65) (leb x 70) refl refl refl refl
  where
    go : (a b c d : Bool) → ltb x 48 ≡ a → leb x 57 ≡ b → ltb x 65 ≡ c → leb x 70 ≡ d
        → cond a 16 (cond b (x - 48) (cond c 16 (cond d (x - 65 + 10) 16))) < 16
        → glyph_of (cond a 16 (cond b (x - 48) (cond c 16 (cond d (x - 65 + 10) 16)))) ≡ x
    go true b c d e f g i h = absurd (omega arith)
    go false true c d e f g i h =
        let low : 48 ≤ x = ltb-false x 48 e in
        let high : x ≤ 57 = leb-true x 57 f in
        rw (lt-ltb (x - 48) 10 (omega arith)) (omega arith)
    go false false true d e f g i h = absurd (omega arith)
    go false false false true e f g i h =
        let low : 65 ≤ x = ltb-false x 65 g in
        rw (le-ltb (x - 65 + 10) 10 (omega arith)) (omega arith)
    go false false false false e f g i h = absurd (omega arith)

-- the digits by the first of them, where their definition goes by the last
digits_first : (base k n : ℕ) → digits_of base (suc k) n ≡ glyph_of (n / base ^ k % base) ∷ digits_of base k n
unfolding digits_of
digits_first base zero n = rw (pow-zero, div-one)
digits_first base (suc k) n = rw (digits_first base k (n / base), div-div-eq-div-mul, pow-succ')

-- what a list of digits spells: the number that stood before it is what is left without its last digits, and those are the list
spelled : (base m n : ℕ) (xs : List ℕ) → base ≤ 16 → onward base m xs ≡ Some n → (n / base ^ length xs ≡ m) × (xs ≡ digits_of base (length xs) n)
unfolding onward digits_of
spelled base m n [] q e = (rw (pow-zero, div-one) (cc), refl)
spelled base m n (x ∷ xs) q e = go (spelled base (m * base + digit_of x) n xs q) (ltb (digit_of x) base) refl e
  where
    go : (onward base (m * base + digit_of x) xs ≡ Some n → (n / base ^ length xs ≡ m * base + digit_of x) × (xs ≡ digits_of base (length xs) n))
        → (t : Bool) → ltb (digit_of x) base ≡ t → cond t (onward base (m * base + digit_of x) xs) None ≡ Some n
        → (n / base ^ suc (length xs) ≡ m) × (x ∷ xs ≡ digits_of base (suc (length xs)) n)
    go rest true l e =
        let d : digit_of x < base = ltb-true (digit_of x) base l in
        let p : 0 < base = omega arith in
        let f : n / base ^ length xs ≡ m * base + digit_of x = (rest e).0 in
        let g : xs ≡ digits_of base (length xs) n = (rest e).1 in
        let i : glyph_of (digit_of x) ≡ x = glyph_digit x (omega arith) in (
          rw (pow-suc, ← div-div-eq-div-mul, f, mul-add-div_right p m (digit_of x), div-eq_of_lt d) (omega arith),
          rw (digits_first base (length xs) n, f, mul-add-mod_self_right m base (digit_of x), mod-eq_of_lt d, i) (ap (λ (ys : List ℕ). x ∷ ys) g),
        )
    go rest false l e = let z : ◌≡◌ {A = ℕ} 0 1 = cc in absurd (omega arith)

bounded_forth : (r : Option ℕ) (n : ℕ) → bounded r ≡ Some n → (r ≡ Some n) × (n < 2 ^ 64)
unfolding bounded
bounded_forth (Some m) n e = go (ltb m (2 ^ 64)) refl e
  where
    go : (t : Bool) → ltb m (2 ^ 64) ≡ t → cond t (Some m) None ≡ Some n → (Some m ≡ Some n) × (n < 2 ^ 64)
    go true l e = let q : m ≡ n = cc in (e, omega (arith, ltb-true m (2 ^ 64) l))
    go false l e = let z : ◌≡◌ {A = ℕ} 0 1 = cc in absurd (omega arith)
bounded_forth None n e = let z : ◌≡◌ {A = ℕ} 0 1 = cc in absurd (omega arith)

-- a quotient of 0 bounds the number
below : (n b : ℕ) → 0 < b → n / b ≡ 0 → n < b
below n b p e = omega (arith, (div-lt_iff_lt-mul {k = b} {x = n} {y = 1} p).0 (omega arith))

pub hex_forth : (k n : ℕ) (xs : List ℕ) → hex_of k xs ≡ Some n → (n < 16 ^ k) × (n < 2 ^ 64) × (xs ≡ digits_of 16 k n)
unfolding hex_of number_of
hex_forth k n xs e = go (eqb k 0) (leb k 16) (eqb (length xs) k) refl e
  where
    go : (a b c : Bool) → eqb (length xs) k ≡ c → cond a None (cond b (cond c (bounded (onward 16 0 xs)) None) None) ≡ Some n
        → (n < 16 ^ k) × (n < 2 ^ 64) × (xs ≡ digits_of 16 k n)
    go false true true l e =
        let f : (onward 16 0 xs ≡ Some n) × (n < 2 ^ 64) = bounded_forth (onward 16 0 xs) n e in
        let g : (n / 16 ^ length xs ≡ 0) × (xs ≡ digits_of 16 (length xs) n) = spelled 16 0 n xs (omega arith) f.0 in
        rw (← eqb-true (length xs) k l) (below n (16 ^ length xs) (one-le-pow (length xs) 16 (omega arith)) g.0, f.1, g.1)
    go false true false l e = let z : ◌≡◌ {A = ℕ} 0 1 = cc in absurd (omega arith)
    go false false c l e = let z : ◌≡◌ {A = ℕ} 0 1 = cc in absurd (omega arith)
    go true b c l e = let z : ◌≡◌ {A = ℕ} 0 1 = cc in absurd (omega arith)

-- how many digits there are, by the powers of ten between which the number lies
pub places_between : (k most n : ℕ) → 10 ^ k ≤ n → n < 10 ^ suc k → n ≤ most → places_of most n ≡ suc k
unfolding places_of
places_between zero most n h l m = places_one most n (omega arith)
places_between (suc k) zero n h l m = absurd (omega (arith, one-le-pow (suc k) 10 (omega arith)))
places_between (suc k) (suc most) n h l m =
    let low : 10 ^ k ≤ n / 10 = (le-div_iff_mul-le {k = 10} (omega arith)).1 (rw pow-suc at h) in
    let high : n / 10 < 10 ^ suc k = (div-lt_iff_lt-mul {k = 10} (omega arith)).1 (rw pow-suc at l) in
    let ten : 10 ≤ n = omega (arith, one-le-pow k 10 (omega arith), rw pow-suc at h) in
    rw (le-ltb n 10 ten) (ap suc (places_between k most (n / 10) low high (omega arith)))

-- a first digit that is not `0` makes the number as large as its place
leading : (x n : ℕ) (xs : List ℕ) → onward 10 0 (x ∷ xs) ≡ Some n → (x ≡ 48 → ⊥) → 10 ^ length xs ≤ n
unfolding onward glyph_of
leading x n xs e u = go (ltb (digit_of x) 10) refl e
  where
    go : (t : Bool) → ltb (digit_of x) 10 ≡ t → cond t (onward 10 (0 * 10 + digit_of x) xs) None ≡ Some n → 10 ^ length xs ≤ n
    go true l e =
        let d : digit_of x < 10 = ltb-true (digit_of x) 10 l in
        let g : glyph_of (digit_of x) ≡ x = glyph_digit x (omega arith) in
        let f : 48 + digit_of x ≡ x = rw (lt-ltb (digit_of x) 10 d) at g in
        let some : digit_of x ≡ 0 → ⊥ = λ z. u (omega arith) in
        let q : n / 10 ^ length xs ≡ 0 * 10 + digit_of x = (spelled 10 (0 * 10 + digit_of x) n xs (omega arith) e).0 in
        omega (arith, (le-div_iff_mul-le {k = 10 ^ length xs} {x = 1} {y = n} (one-le-pow (length xs) 10 (omega arith))).0 (omega arith))
    go false l e = let z : ◌≡◌ {A = ℕ} 0 1 = cc in absurd (omega arith)

module _ (x n : ℕ) (xs : List ℕ) (h : (0 < length xs) → x ≡ 48 → ⊥) where
  -- digits of which the first is not `0`, unless it stands alone
  plain_forth : number_of 10 (x ∷ xs) ≡ Some n → (n < 2 ^ 64) × (x ∷ xs ≡ text_of n)
  unfolding number_of text_of
  plain_forth e =
      let f : (onward 10 0 (x ∷ xs) ≡ Some n) × (n < 2 ^ 64) = bounded_forth (onward 10 0 (x ∷ xs)) n e in
      let g : (n / 10 ^ suc (length xs) ≡ 0) × (x ∷ xs ≡ digits_of 10 (suc (length xs)) n) = spelled 10 0 n (x ∷ xs) (omega arith) f.0 in
      let high : n < 10 ^ suc (length xs) = below n (10 ^ suc (length xs)) (one-le-pow (suc (length xs)) 10 (omega arith)) g.0 in
      (f.1, rw (places xs h f.0 high) g.1)
    where
      places : (ys : List ℕ) → ((0 < length ys) → x ≡ 48 → ⊥) → onward 10 0 (x ∷ ys) ≡ Some n → n < 10 ^ suc (length ys) → places_of n n ≡ suc (length ys)
      places [] k e l = places_one n n (omega arith)
      places (y ∷ ys) k e l = places_between (length (y ∷ ys)) n n (leading x n (y ∷ ys) e (k (omega arith))) l (omega arith)

pub decimal_forth : (n : ℕ) (xs : List ℕ) → decimal_of xs ≡ Some n → (n < 2 ^ 64) × (xs ≡ text_of n)
unfolding decimal_of
decimal_forth n [] e = let z : ◌≡◌ {A = ℕ} 0 1 = cc in absurd (omega arith)
decimal_forth n (x ∷ []) e = plain_forth x n [] (λ h. absurd (omega arith)) e
decimal_forth n (x ∷ (y ∷ xs)) e = go (eqb x 48) refl e
  where
    go : (t : Bool) → eqb x 48 ≡ t → cond t None (number_of 10 (x ∷ (y ∷ xs))) ≡ Some n → (n < 2 ^ 64) × (x ∷ (y ∷ xs) ≡ text_of n)
    go true u e = let z : ◌≡◌ {A = ℕ} 0 1 = cc in absurd (omega arith)
    go false u e = plain_forth x n (y ∷ xs) (λ h. eqb-false x 48 u) e

-- ---- how long a decimal is

places_most : (k most n : ℕ) → n < 10 ^ suc k → places_of most n ≤ suc k
unfolding places_of
places_most zero most n h = omega (arith, places_one most n (omega arith))
places_most (suc k) zero n h = omega arith
places_most (suc k) (suc most) n h = go (ltb n 10) (places_most k most (n / 10) ((div-lt_iff_lt-mul {k = 10} (omega arith)).1 (rw pow-suc at h)))
  where
    go : (t : Bool) → places_of most (n / 10) ≤ suc k → cond t 1 (suc (places_of most (n / 10))) ≤ suc (suc k)
    go true l = omega arith
    go false l = omega arith

pub length_text : (n : ℕ) → n < 2 ^ 64 → length (text_of n) ≤ 20
unfolding text_of
length_text n h = rw length_digits (places_most 19 n n (omega arith))

-- ---- which bytes digits have not: those below `0`

pub before_past : (b : ℕ) (xs ys : List ℕ) → before b xs ≡ length xs → before b (xs ++ ys) ≡ length xs + before b ys
unfolding before
before_past b [] ys h = omega arith
before_past b (x ∷ xs) ys h = go (before_past b xs ys) (eqb x b) h
  where
    go : (before b xs ≡ length xs → before b (xs ++ ys) ≡ length xs + before b ys)
        → (t : Bool) → cond t 0 (suc (before b xs)) ≡ suc (length xs) → cond t 0 (suc (before b (xs ++ ys))) ≡ suc (length xs) + before b ys
    go rest true h = absurd (omega arith)
    go rest false h = omega (arith, rest (omega arith))

glyph_high : (d : ℕ) → 48 ≤ glyph_of d
unfolding glyph_of
glyph_high d = go (ltb d 10)
  where
    go : (t : Bool) → 48 ≤ cond t (48 + d) (55 + d)
    go true = omega arith
    go false = omega arith

module _ (b : ℕ) (h : b < 48) where
  pub digits_without : (base k n : ℕ) → before b (digits_of base k n) ≡ length (digits_of base k n)
  unfolding digits_of before
  digits_without base zero n = refl
  digits_without base (suc k) n =
      let u : glyph_of (n % base) ≡ b → ⊥ = λ e. omega (arith, glyph_high (n % base)) in
      rw (before_past b (digits_of base k (n / base)) (glyph_of (n % base) ∷ []) (digits_without base k (n / base)), ne_eqb (glyph_of (n % base)) b u, length-append)

  pub text_without : (n : ℕ) → before b (text_of n) ≡ length (text_of n)
  unfolding text_of
  text_without n = digits_without 10 (places_of n n) n
