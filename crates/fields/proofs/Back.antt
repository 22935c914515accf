-- What is written is read back: the digits of a number as that number, and its decimal as that number. Assumes nothing.
use Rattle.std.proofs.lemmas.Bool.{lt-leb}
use Rattle.std.proofs.Common.{ℕ, zero, suc, ◌+◌, ◌*◌, ◌/◌, ◌%◌, ◌^◌, ◌≤◌, ◌<◌, ◌≡◌, refl, ap, ◌∙◌, Bool, true, false, cond, Option, Some, None, List, [], ◌∷◌, ◌++◌, mod-lt, div-lt_iff_lt-mul, div-add-mod', pow-suc, arith, length, get_or, ltb, eq-eqb, ne_eqb, lt-ltb, le-ltb, le-leb, ltb-true, ltb-false}
use Rattle.std.proofs.Math.Nat.{pow-zero}
use Rattle.std.proofs.Math.ListN.{get_or-append}
use Rattle.fields.specs.Read.{digit_of, onward, bounded, number_of, hex_of, decimal_of}
use Rattle.fields.specs.Write.{glyph_of, digits_of, places_of, text_of}
use Rattle.fields.proofs.Writing.{places_one, length_digits}

digit_glyph : (d : ℕ) → d < 16 → digit_of (glyph_of d) ≡ d
unfolding digit_of glyph_of
digit_glyph d h = go (ltb d 10) refl
  where
    go : (t : Bool) → ltb d 10 ≡ t → digit_of (cond t (48 + d) (55 + d)) ≡ d
    go true e =
        let l : d < 10 = ltb-true d 10 e in
        rw (le-ltb (48 + d) 48 (omega arith), le-leb (48 + d) 57 (omega arith)) (omega arith)
    go false e =
        let l : 10 ≤ d = ltb-false d 10 e in
        rw (le-ltb (55 + d) 48 (omega arith), lt-leb (55 + d) 57 (omega arith), le-ltb (55 + d) 65 (omega arith), le-leb (55 + d) 70 (omega arith)) (omega arith)

-- a number and one digit more
next : ℕ → ℕ → Option ℕ → Option ℕ
next base x (Some n) = cond (ltb (digit_of x) base) (Some (n * base + digit_of x)) None
next base x None = None

onward_last : (base m : ℕ) (xs : List ℕ) (x : ℕ) → onward base m (xs ++ (x ∷ [])) ≡ next base x (onward base m xs)
unfolding onward next
onward_last base m [] x = refl
onward_last base m (y ∷ xs) x = go (onward_last base (m * base + digit_of y) xs x) (ltb (digit_of y) base)
  where
    go : onward base (m * base + digit_of y) (xs ++ (x ∷ [])) ≡ next base x (onward base (m * base + digit_of y) xs)
        → (t : Bool) → cond t (onward base (m * base + digit_of y) (xs ++ (x ∷ []))) None ≡ next base x (cond t (onward base (m * base + digit_of y) xs) None)
    go e true = e
    go e false = refl

pub digits_back : (base k n : ℕ) → 0 < base → base ≤ 16 → n < base ^ k → onward base 0 (digits_of base k n) ≡ Some n
unfolding digits_of onward next
digits_back base zero n p q h = let e : n ≡ 0 = omega (arith, rw pow-zero at h) in rw e
digits_back base (suc k) n p q h =
    let l : n / base < base ^ k = (div-lt_iff_lt-mul p).1 (rw pow-suc at h) in
    let d : n % base < base = mod-lt n p in
    onward_last base 0 (digits_of base k (n / base)) (glyph_of (n % base))
    ∙ rw (digits_back base k (n / base) p q l, digit_glyph (n % base) (omega arith), lt-ltb (n % base) base d) (ap Some (div-add-mod' n base))

pub hex_back : (k n : ℕ) → 0 < k → k ≤ 16 → n < 16 ^ k → n < 2 ^ 64 → hex_of k (digits_of 16 k n) ≡ Some n
unfolding hex_of number_of bounded
hex_back k n p q h l =
    let e : k ≡ 0 → ⊥ = λ z. omega arith in
    rw (ne_eqb k 0 e, le-leb k 16 q, eq-eqb (length (digits_of 16 k n)) k (length_digits 16 k n), digits_back 16 k n (omega arith) (omega arith) h, lt-ltb n (2 ^ 64) l)

places_hold : (most n : ℕ) → n ≤ most → n < 10 ^ places_of most n
unfolding places_of
places_hold zero n h = omega arith
places_hold (suc most) n h = go (places_hold most (n / 10)) (ltb n 10) refl
  where
    go : (n / 10 ≤ most → n / 10 < 10 ^ places_of most (n / 10)) → (t : Bool) → ltb n 10 ≡ t → n < 10 ^ cond t 1 (suc (places_of most (n / 10)))
    go r true e = omega (arith, ltb-true n 10 e)
    go r false e =
        let ten : 10 ≤ n = ltb-false n 10 e in
        rw pow-suc ((div-lt_iff_lt-mul {k = 10} (omega arith)).0 (r (omega arith)))

some : (most n : ℕ) → 0 < places_of most n
unfolding places_of
some zero n = omega arith
some (suc most) n = go (ltb n 10)
  where
    go : (t : Bool) → 0 < cond t 1 (suc (places_of most (n / 10)))
    go true = omega arith
    go false = omega arith

-- the first digit of a number that is not 0 is not `0`
first_digit : (most n : ℕ) → 0 < n → n ≤ most → get_or (digits_of 10 (places_of most n) n) 0 0 ≡ 48 → ⊥
unfolding places_of digits_of glyph_of
first_digit zero n p h = absurd (omega arith)
first_digit (suc most) n p h = go (first_digit most (n / 10)) (ltb n 10) refl
  where
    go : (0 < n / 10 → n / 10 ≤ most → get_or (digits_of 10 (places_of most (n / 10)) (n / 10)) 0 0 ≡ 48 → ⊥)
        → (t : Bool) → ltb n 10 ≡ t → get_or (digits_of 10 (cond t 1 (suc (places_of most (n / 10)))) n) 0 0 ≡ 48 → ⊥
    go r true e q =
        let l : n < 10 = ltb-true n 10 e in
        omega (arith, rw (lt-ltb (n % 10) 10 (omega arith)) at q)
    go r false e q =
        let ten : 10 ≤ n = ltb-false n 10 e in
        let short : 0 < length (digits_of 10 (places_of most (n / 10)) (n / 10)) = rw length_digits (some most (n / 10)) in
        r (omega arith) (omega arith) (rw (get_or-append (digits_of 10 (places_of most (n / 10)) (n / 10)) _ 0 0 short) at q)

plain : (xs : List ℕ) → 0 < length xs → (1 < length xs → get_or xs 0 0 ≡ 48 → ⊥) → decimal_of xs ≡ number_of 10 xs
unfolding decimal_of
plain [] h f = absurd (omega arith)
plain (x ∷ []) h f = refl
plain (x ∷ (y ∷ xs)) h f = rw (ne_eqb x 48 (f (omega arith)))

pub decimal_back : (n : ℕ) → n < 2 ^ 64 → decimal_of (text_of n) ≡ Some n
unfolding text_of number_of bounded
decimal_back n l =
    let e : length (digits_of 10 (places_of n n) n) ≡ places_of n n = length_digits 10 (places_of n n) n in
    plain (digits_of 10 (places_of n n) n) (rw e (some n n)) (go n)
    ∙ rw (digits_back 10 (places_of n n) n (omega arith) (omega arith) (places_hold n n (omega arith)), lt-ltb n (2 ^ 64) l)
  where
    go : (m : ℕ) → 1 < length (digits_of 10 (places_of m m) m) → get_or (digits_of 10 (places_of m m) m) 0 0 ≡ 48 → ⊥
    go zero h = absurd (omega (arith, places_one 0 0 (omega arith), rw length_digits at h))
    go (suc m) h = first_digit (suc m) (suc m) (omega arith) (omega arith)
