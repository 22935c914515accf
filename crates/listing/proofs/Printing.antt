-- How a line is printed, a field at a time, as the loops do. Assumes nothing.
use Rattle.std.proofs.lemmas.Bool.{lt-leb}
use Rattle.std.proofs.Common.{◌≡◌, refl, sym, ap, ◌∙◌, Bool, true, false, List, [], ◌∷◌, ◌++◌, ℕ, zero, suc, ◌+◌, ◌-◌, ◌≤◌, ◌<◌, add-one, arith, length, drop, get_or, length-append, drop_of_length-le, drop-cons, drop-drop, leb, eq-eqb, ne_eqb, le-leb, leb-true, leb-false}
use Rattle.fields.specs.Write.{digits_of, text_of, put_at, place_after}
use Rattle.fields.proofs.Writing.{fits, full, length_put, put_none, put_more, put_then}
use Rattle.listing.specs.Lines.{tab, line_feed, float, field_text, first_of, fields_text, line_text, ended_text}

same_test : (a b m n : ℕ) → (a ≤ b → m ≤ n) → (m ≤ n → a ≤ b) → leb a b ≡ leb m n
same_test a b m n there back = go (leb a b) (leb m n) refl refl
  where
    go : (t u : Bool) → leb a b ≡ t → leb m n ≡ u → t ≡ u
    go true true p q = refl
    go true false p q = absurd (omega (arith, leb-false m n q, there (leb-true a b p)))
    go false true p q = absurd (omega (arith, leb-false a b p, back (leb-true m n q)))
    go false false p q = refl

-- ---- a field

module _ (kind v : ℕ) where
  pub field_hex : kind ≡ float → field_text kind v ≡ digits_of 16 8 v
  unfolding field_text
  field_hex e = rw (eq-eqb kind float e)

  pub field_decimal : (kind ≡ float → ⊥) → field_text kind v ≡ text_of v
  unfolding field_text
  field_decimal e = rw (ne_eqb kind float e)

  -- a tab, and the field behind it
  pub tab_then : (out : List ℕ) (at : ℕ) → at + (length (field_text kind v) + 1) ≤ length out → {one : List ℕ} {p : ℕ} → one ≡ put_at out at (tab ∷ []) → p ≡ place_after out at (tab ∷ [])
      → {text : List ℕ} → field_text kind v ≡ text → {two : List ℕ} {q : ℕ} → two ≡ put_at one p text → q ≡ place_after one p text
      → (q ≡ at + (length (field_text kind v) + 1)) × (two ≡ put_at out at (tab ∷ field_text kind v))
  tab_then out at h {one} {p} e l {text} t d m =
      let l1 : p ≡ at + 1 = l ∙ sym (fits out at (tab ∷ []) 1 refl (omega arith)).1 in
      let r = put_then out at (tab ∷ []) (field_text kind v) (omega arith) e l1 (rw (← t) at d) (rw (← t) at m) in
      (omega (arith, r.1), r.0)

-- ---- the fields that are left

next_value : (vs : List ℕ) (k : ℕ) → first_of (drop k vs) ≡ get_or vs k 0
next_value [] zero = refl
next_value [] (suc k) = refl
next_value (v ∷ vs) zero = refl
next_value (v ∷ vs) (suc k) = next_value vs k

module _ (kinds values : List ℕ) where
  abbrev pub left : ℕ → List ℕ
  left k = fields_text (drop k kinds) (drop k values)

  pub left_one : (k : ℕ) → k < length kinds → left k ≡ (tab ∷ field_text (get_or kinds k 0) (get_or values k 0)) ++ left (k + 1)
  unfolding fields_text
  left_one k h = rw (drop-cons kinds k 0 h, next_value values k, drop-drop 1 k values, add-one k)

  pub left_none : (k : ℕ) → length kinds ≤ k → left k ≡ []
  unfolding fields_text
  left_none k h = rw (drop_of_length-le kinds h)

  -- whether they fit into some bytes
  pub fit_none : (k room : ℕ) → length kinds ≤ k → leb (length (left k)) room ≡ true
  fit_none k room h = rw (left_none k h) (le-leb 0 room (omega arith))

  pub length_one : (k : ℕ) → k < length kinds → length (left k) ≡ length (field_text (get_or kinds k 0) (get_or values k 0)) + 1 + length (left (k + 1))
  length_one k h = rw (left_one k h, length-append) (omega arith)

  pub fit_not : (k room : ℕ) → k < length kinds → room ≤ length (field_text (get_or kinds k 0) (get_or values k 0)) → leb (length (left k)) room ≡ false
  fit_not k room h l = lt-leb (length (left k)) room (omega (arith, length_one k h))

  pub fit_more : (k room : ℕ) → k < length kinds → length (field_text (get_or kinds k 0) (get_or values k 0)) < room
      → leb (length (left k)) room ≡ leb (length (left (k + 1))) (room - (length (field_text (get_or kinds k 0) (get_or values k 0)) + 1))
  fit_more k room h l =
      let e = length_one k h in
      same_test (length (left k)) room (length (left (k + 1))) (room - (length (field_text (get_or kinds k 0) (get_or values k 0)) + 1)) (λ a. omega arith) (λ a. omega arith)

  -- with the fields below k printed
  module _ (out : List ℕ) (place k : ℕ) (h : k < length kinds) (room : place + length (left k) ≤ length out) where
    pub put_one : {next : List ℕ} {q : ℕ} → next ≡ put_at out place (tab ∷ field_text (get_or kinds k 0) (get_or values k 0)) → q ≡ place + (length (field_text (get_or kinds k 0) (get_or values k 0)) + 1)
        → (q + length (left (k + 1)) ≡ place + length (left k)) × (put_at out place (left k) ≡ put_at next q (left (k + 1)))
    put_one {next} {q} e l =
        let field = tab ∷ field_text (get_or kinds k 0) (get_or values k 0) in
        let all : place + length (field ++ left (k + 1)) ≤ length out = rw (left_one k h) at room in
        let there : q ≡ place + length field = omega arith in
        (omega (arith, length_one k h), rw (left_one k h, e, there) (sym (put_more out place field (left (k + 1)) all)))

  pub put_last : (out : List ℕ) (place k : ℕ) → length kinds ≤ k → place ≤ length out → put_at out place (left k) ≡ out
  put_last out place k h l = rw (left_none k h) (put_none out place l)

-- ---- a line

module _ (head kinds values out : List ℕ) (at : ℕ) where
  abbrev text : List ℕ
  text = ended_text head kinds values

  length_text : length text ≡ length head + (length (fields_text kinds values) + 1)
  length_text = rw (length-append, length-append) (omega arith)

  pub line_full : leb (at + (length head + (length (fields_text kinds values) + 1))) (length out) ≡ false → (at ≡ place_after out at text) × (out ≡ put_at out at text)
  line_full e =
      let r = full out at text (length head + (length (fields_text kinds values) + 1)) length_text (leb-false (at + (length head + (length (fields_text kinds values) + 1))) (length out) e) in
      (r.1, r.0)

  -- the head, then the fields, then the line feed
  module _ (e : leb (at + (length head + (length (fields_text kinds values) + 1))) (length out) ≡ true) {one : List ℕ} {p : ℕ} (d : one ≡ put_at out at head) (l : p ≡ place_after out at head) where
    room : at + (length head + (length (fields_text kinds values) + 1)) ≤ length out
    room = leb-true (at + (length head + (length (fields_text kinds values) + 1))) (length out) e

    behind_head : p ≡ at + length head
    behind_head = let h = room in l ∙ sym (fits out at head (length head) refl (omega arith)).1

    pub fields_fit : p + length (fields_text kinds values) ≤ length one
    fields_fit = let h = room in omega (arith, behind_head, ap length d, length_put out at head)

    pub line_put : {two : List ℕ} {q : ℕ} → two ≡ put_at one p (fields_text kinds values) → q ≡ p + length (fields_text kinds values)
        → {three : List ℕ} {r : ℕ} → three ≡ put_at two q (line_feed ∷ []) → r ≡ place_after two q (line_feed ∷ []) → (r ≡ place_after out at text) × (three ≡ put_at out at text)
    line_put {two} {q} f m {three} {r} g n =
        let h = room in
        let here = behind_head in
        let size = length-append head (fields_text kinds values) in
        let all = length_text in
        let there : two ≡ put_at out at (line_text head kinds values) = f ∙ rw (d, here) (put_more out at head (fields_text kinds values) (omega arith)) in
        let end = put_then out at (line_text head kinds values) (line_feed ∷ []) (omega arith) there (omega arith) g n in
        (end.1 ∙ (fits out at text (length text) refl (omega arith)).1, end.0)
