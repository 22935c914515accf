-- How the digits of a number are laid down, one at a time, as the loop does, and what is put into a list. Assumes nothing.
use Rattle.std.proofs.lemmas.Bool.{lt-leb}
use Rattle.std.proofs.Common.{ℕ, zero, suc, ◌+◌, ◌-◌, ◌/◌, ◌%◌, ◌≤◌, ◌<◌, ◌≡◌, refl, sym, ap, ◌∙◌, Bool, true, false, cond, List, [], ◌++◌, append_assoc, arith, length, take, drop, set, take-append-drop, length-set, length-append, length-drop, drop-cons, get_or-set_same, drop-set-lt, length-take-le, take_at, drop-drop, leb, lt-ltb, le-leb, leb-true}
use Rattle.std.proofs.Math.Seq.{drop-append-add}
use borrow.Rule.Slice.PartMut.{put_mid}
use Rattle.std.proofs.lemmas.Slice.{put_mid-paste}
use Rattle.std.proofs.lemmas.List.Edits.{paste_all}
use Rattle.fields.specs.Write.{glyph_of, digits_of, places_of, put_at, place_after}

pub places_one : (most n : ℕ) → n < 10 → places_of most n ≡ 1
unfolding places_of
places_one zero n h = refl
places_one (suc most) n h = rw (lt-ltb n 10 h)

pub fill_step : (base rest i : ℕ) (out : List ℕ) → 0 < i → i ≤ length out
    → digits_of base i rest ++ drop i out ≡ digits_of base (i - 1) (rest / base) ++ drop (i - 1) (set out (i - 1) (glyph_of (rest % base)))
unfolding digits_of
fill_step base rest zero out h k = absurd (omega arith)
fill_step base rest (suc j) out h k =
    let d : suc j - 1 ≡ j = omega arith in
    let l : j < length (set out j (glyph_of (rest % base))) = rw length-set (omega arith) in
    let v : j < length out = omega arith in
    let w : j < suc j = omega arith in
    rw (d, drop-cons (set out j (glyph_of (rest % base))) j 0 l, get_or-set_same, drop-set-lt, append_assoc)

pub length_digits : (base k n : ℕ) → length (digits_of base k n) ≡ k
unfolding digits_of
length_digits base zero n = refl
length_digits base (suc k) n = rw (length-append, length_digits base k (n / base)) (omega arith)

module _ (out : List ℕ) (at : ℕ) (xs : List ℕ) (n : ℕ) (e : length xs ≡ n) where
  -- what is put where it fits, and where it does not: the list and the place after
  pub fits : at + n ≤ length out → (take at out ++ (xs ++ drop (at + n) out) ≡ put_at out at xs) × (at + n ≡ place_after out at xs)
  unfolding put_at place_after
  fits h = (rw (e, le-leb _ _ h), rw (e, le-leb _ _ h))

  pub full : length out < at + n → (out ≡ put_at out at xs) × (at ≡ place_after out at xs)
  unfolding put_at place_after
  full h = (rw (e, lt-leb _ _ h), rw (e, lt-leb _ _ h))

  -- the same, where xs is written to the part of the list that it is to take
  pub part_fits : {ys : List ℕ} → ys ≡ xs → at + n ≤ length out → put_mid at (at + n - at) out ys ≡ put_at out at xs
  part_fits q h = put_mid-paste at (at + n - at) out _ xs n q (omega arith) (sym e) ∙ paste_all out at xs n (sym e) ∙ (fits h).0

pub length_put : (out : List ℕ) (at : ℕ) (xs : List ℕ) → length (put_at out at xs) ≡ length out
unfolding put_at
length_put out at xs = go (leb (at + length xs) (length out)) refl
  where
    go : (t : Bool) → leb (at + length xs) (length out) ≡ t → length (cond t (take at out ++ (xs ++ drop (at + length xs) out)) out) ≡ length out
    go true e =
        let h : at + length xs ≤ length out = leb-true (at + length xs) (length out) e in
        rw (length-append, length-append, length-take-le at out (omega arith), length-drop) (omega arith)
    go false e = refl

pub put_none : (out : List ℕ) (at : ℕ) → at ≤ length out → put_at out at [] ≡ out
put_none out at h =
    let e : at + 0 ≡ at = omega arith in
    sym (fits out at [] 0 refl (omega arith)).0 ∙ rw (e, take-append-drop)

-- what is put behind what was put is put with it
pub put_more : (out : List ℕ) (at : ℕ) (xs ys : List ℕ) → at + length (xs ++ ys) ≤ length out → put_at (put_at out at xs) (at + length xs) ys ≡ put_at out at (xs ++ ys)
put_more out at xs ys h =
    let n = length-append xs ys in
    let p = (fits out at xs (length xs) refl (omega arith)).0 in
    let front : length (take at out ++ xs) ≡ at + length xs = rw (length-append, length-take-le at out (omega arith)) in
    let one : put_at out at xs ≡ (take at out ++ xs) ++ drop (at + length xs) out = sym p ∙ sym (append_assoc (take at out) xs (drop (at + length xs) out)) in
    let q = (fits (put_at out at xs) (at + length xs) ys (length ys) refl (omega (arith, length_put out at xs))).0 in
    let behind : drop (at + length xs + length ys) (put_at out at xs) ≡ drop (at + length (xs ++ ys)) out =
    rw (one, ← front, drop-append-add, drop-drop, front) (let r : at + length xs + length ys ≡ at + length (xs ++ ys) = omega arith in rw r) in
    sym q ∙ rw (behind, one, take_at (take at out ++ xs) (drop (at + length xs) out) (at + length xs) front, append_assoc, ← append_assoc xs ys)
    (fits out at (xs ++ ys) (length (xs ++ ys)) refl h).0

-- one call behind another: what both left, and where
pub put_then : (out : List ℕ) (at : ℕ) (xs ys : List ℕ) → at + length (xs ++ ys) ≤ length out → {one : List ℕ} {p : ℕ} → one ≡ put_at out at xs → p ≡ at + length xs
    → {two : List ℕ} {q : ℕ} → two ≡ put_at one p ys → q ≡ place_after one p ys → (two ≡ put_at out at (xs ++ ys)) × (q ≡ at + length (xs ++ ys))
put_then out at xs ys h {one} {p} e l d m =
    let n = length-append xs ys in
    let size : length one ≡ length out = ap length e ∙ length_put out at xs in
    (d ∙ rw (e, l) (put_more out at xs ys h), m ∙ sym (fits one p ys (length ys) refl (omega arith)).1 ∙ omega arith)
