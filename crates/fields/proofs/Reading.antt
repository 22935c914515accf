-- How `place_of` and `onward` go over a list, and what is read in a part of one. Assumes nothing.
use Rattle.std.proofs.Common.{ℕ, suc, ◌+◌, ◌*◌, ◌^◌, ◌≤◌, ◌<◌, ◌≡◌, refl, sym, ap, ◌∙◌, Bool, true, false, cond, Option, Some, None, List, [], ◌∷◌, le-mul_of_pos_right, add-one, arith, length, take, get_or, length-take, drop, drop_of_length-le, drop-cons, get_or-take, eq-eqb, eqb, leb, ltb, ne_eqb, lt-ltb, le-ltb, le-leb, ltb-true, Bor, MatchOption, inl, inr}
use Rattle.std.proofs.Math.Seq.{slice}
use Rattle.std.proofs.lemmas.Bool.{eqb-false, lt-leb}
use Rattle.std.specs.Slice.{IsGetRangeResult}
use Rattle.std.proofs.lemmas.Slice.{between_is}
use Rattle.fields.specs.Read.{before, place_of, digit_of, onward, bounded, number_of, hex_of, decimal_of, read_in}

module _ (b i end stop : ℕ) (s : List ℕ) (e : stop ≡ length (take end s)) where
  within : i < stop → i < end
  within h = omega (arith, length-take end s)

  pub place_hit : i < stop → get_or s i 0 ≡ b → place_of b i (take end s) ≡ i
  unfolding place_of before
  place_hit h q =
      let l : i < length (take end s) = omega arith in
      rw (drop-cons (take end s) i 0 l, get_or-take end s i 0 (within h), eq-eqb _ _ q) (omega arith)

  pub place_miss : i < stop → (get_or s i 0 ≡ b → ⊥) → place_of b i (take end s) ≡ place_of b (i + 1) (take end s)
  unfolding place_of before
  place_miss h q =
      let l : i < length (take end s) = omega arith in
      rw (drop-cons (take end s) i 0 l, get_or-take end s i 0 (within h), ne_eqb _ _ q, add-one) (omega arith)

  pub place_end : stop ≤ i → place_of b i (take end s) ≡ stop
  unfolding place_of before
  place_end h =
      let l : length (take end s) ≤ i = omega arith in
      rw (drop_of_length-le (take end s) l) (omega arith)

-- a number of 2^64 or more stays too large
pub too_large : (base n : ℕ) (xs : List ℕ) → 2 ^ 64 ≤ n → bounded (onward base n xs) ≡ None
unfolding bounded onward
too_large base n [] h = rw (le-ltb n (2 ^ 64) h)
too_large base n (x ∷ xs) h = go (too_large base (n * base + digit_of x) xs) (ltb (digit_of x) base) refl
  where
    go : (2 ^ 64 ≤ n * base + digit_of x → bounded (onward base (n * base + digit_of x) xs) ≡ None)
        → (t : Bool) → ltb (digit_of x) base ≡ t → bounded (cond t (onward base (n * base + digit_of x) xs) None) ≡ None
    go rest true e =
        let more : 0 < base = omega (arith, ltb-true (digit_of x) base e) in
        rest (omega (arith, le-mul_of_pos_right n more))
    go rest false e = refl

-- the digit at a place, and what it makes of the number before it
module _ (base n i : ℕ) (s : List ℕ) (h : i < length s) where
  pub digit_bad : base ≤ digit_of (get_or s i 0) → bounded (onward base n (drop i s)) ≡ None
  unfolding bounded onward
  digit_bad q = rw (drop-cons s i 0 h, le-ltb (digit_of (get_or s i 0)) base q)

  pub digit_more : digit_of (get_or s i 0) < base → onward base n (drop i s) ≡ onward base (n * base + digit_of (get_or s i 0)) (drop (i + 1) s)
  unfolding onward
  digit_more q = rw (drop-cons s i 0 h, lt-ltb (digit_of (get_or s i 0)) base q, add-one)

  pub digit_over : digit_of (get_or s i 0) < base → 2 ^ 64 ≤ n * base + digit_of (get_or s i 0) → bounded (onward base n (drop i s)) ≡ None
  digit_over q r = ap bounded (digit_more q) ∙ too_large base (n * base + digit_of (get_or s i 0)) (drop (i + 1) s) r

pub digits_end : (base n i : ℕ) (s : List ℕ) → length s ≤ i → n < 2 ^ 64 → bounded (onward base n (drop i s)) ≡ Some n
unfolding bounded onward
digits_end base n i s h l = rw (drop_of_length-le s h, lt-ltb n (2 ^ 64) l)

neither : (t : Bool) → cond {A = Option ℕ} t None None ≡ None
neither true = refl
neither false = refl

module _ (read : List ℕ → Option ℕ) (from to : ℕ) (s : List ℕ) where
  pub read_out : length s < to → read_in read from to s ≡ None
  unfolding read_in
  read_out h = rw (lt-leb to (length s) h)

  pub read_in_lem : to ≤ length s → read_in read from to s ≡ read (slice from to s)
  unfolding read_in
  read_in_lem h = rw (le-leb to (length s) h)

  -- what `get` gives of the part is what is read
  pub read_got : (r : Option (Bor (List ℕ))) → IsGetRangeResult s from to r → read [] ≡ None → MatchOption r (None ≡ read_in read from to s) (λ x. read x.now ≡ read_in read from to s)
  unfolding read_in
  read_got None h e =
      elim h.0 [
        | inl l ↦ (let short : length (take to s) ≤ from = rw length-take (omega arith) in rw (drop_of_length-le (take to s) short, e) (sym (neither (leb to (length s)))))
        | inr l ↦ rw (lt-leb to (length s) l)
      ]
  read_got (Some x) h e = rw (le-leb to (length s) h.0.1, h.0.2, between_is s from to)

pub hex_none : (digits : ℕ) → hex_of digits [] ≡ None
unfolding hex_of
hex_none digits = go (eqb digits 0) refl
  where
    go : (t : Bool) → eqb digits 0 ≡ t → cond t None (cond (leb digits 16) (cond (eqb 0 digits) (number_of 16 []) None) None) ≡ None
    go true e = refl
    go false e = rw (ne_eqb 0 digits (λ q. eqb-false digits 0 e (sym q))) (neither (leb digits 16))

-- a plain decimal by the length of the list and its first element
pub decimal_is : (xs : List ℕ) → decimal_of xs ≡ cond (eqb (length xs) 0) None (cond (ltb 1 (length xs)) (cond (eqb (get_or xs 0 0) 48) None (number_of 10 xs)) (number_of 10 xs))
unfolding decimal_of
decimal_is [] = refl
decimal_is (x ∷ []) = refl
decimal_is (x ∷ (y ∷ xs)) = rw (ne_eqb (suc (suc (length xs))) 0 (λ q. omega arith), lt-ltb 1 (suc (suc (length xs))) (omega arith))
