-- How the fields of a line are read, one at a time, as the loop does. Assumes nothing.
use Rattle.std.proofs.lemmas.Bool.{eqb-false}
use Rattle.std.proofs.Common.{None, Option, Some, ◌≡◌, refl, sym, ap, ◌∙◌, Bool, true, false, cond, true≢false, List, [], ◌∷◌, ◌++◌, append_assoc, append-nil, ℕ, ◌+◌, ◌≤◌, ◌<◌, min, add-one, arith, length, take, drop, get_or, set, drop_of_length-le, drop-cons, drop-drop, take-add, drop_at, length-take-le, take-suc-set, eqb, leb, ltb, eq-eqb, ne_eqb, lt-ltb, le-ltb, eqb-true, ltb-true, ltb-false, leb-true, leb-false}
use Rattle.std.proofs.Math.Seq.{slice, take-length, drop-length}
use Rattle.std.specs.Bool.{then_some}
use Rattle.fields.specs.Read.{before, place_of, begins_with, read_in}
use Rattle.fields.proofs.Reading.{read_in_lem}
use Rattle.listing.specs.Lines.{tab, field_of, Values, with, fields_of, line_of}
use Rattle.listing.specs.Steps.{ends, step_of, ahead}

-- ---- a field

module _ (kind at : ℕ) (text : List ℕ) where
  pub no_more : length text ≤ at → None ≡ step_of kind at text
  unfolding step_of
  no_more h = rw (le-ltb at (length text) h)

  pub no_tab : at < length text → (get_or text at 0 ≡ tab → ⊥) → None ≡ step_of kind at text
  unfolding step_of
  no_tab h e = rw (lt-ltb at (length text) h, ne_eqb (get_or text at 0) tab e)

  pub a_tab : at < length text → get_or text at 0 ≡ tab → ends (field_of kind (slice (at + 1) (place_of tab (at + 1) text) text)) (place_of tab (at + 1) text) ≡ step_of kind at text
  unfolding step_of
  a_tab h e = rw (lt-ltb at (length text) h, eq-eqb (get_or text at 0) tab e)

  -- as it is read: up to the next tab that is found, and a number there
  pub read : at < length text → get_or text at 0 ≡ tab → {e : ℕ} → e ≡ place_of tab (at + 1) (take (length text) text) → e ≤ length text → {m : Option ℕ} → m ≡ read_in (field_of kind) (at + 1) e text
      → ends m e ≡ step_of kind at text
  read h q {e} p l {m} r =
      let there : e ≡ place_of tab (at + 1) text = rw take-length at p in
      rw (r ∙ read_in_lem (field_of kind) (at + 1) e text l, there) (a_tab h q)

-- ---- a field and those behind it

abbrev pub onwards : Option (ℕ × ℕ) → List ℕ → List ℕ → Values
onwards (Some (v, e)) kinds text = with (Some v) (fields_of kinds (drop e text))
onwards None kinds text = None

part : (n m : ℕ) (l : List ℕ) → n ≤ length l → slice n (n + m) l ≡ take m (drop n l)
part n m l h = rw (take-add n m l) (drop_at (take n l) (take m (drop n l)) n (length-take-le n l h))

place : (at : ℕ) (text : List ℕ) → at ≤ length text → place_of tab at text ≡ at + before tab (drop at text)
unfolding place_of
place at text h = let e : min at (length text) ≡ at = omega arith in rw e

ended : (m : Option ℕ) (e : ℕ) (kinds text : List ℕ) → with m (fields_of kinds (drop e text)) ≡ onwards (ends m e) kinds text
ended (Some v) e kinds text = refl
ended None e kinds text = refl

pub field : (kind : ℕ) (kinds : List ℕ) (at : ℕ) (text : List ℕ) → fields_of (kind ∷ kinds) (drop at text) ≡ onwards (step_of kind at text) kinds text
unfolding fields_of
field kind kinds at text = go (ltb at (length text)) refl
  where
    at_tab : at < length text → (t : Bool) → eqb (get_or text at 0) tab ≡ t
        → cond t (with (field_of kind (take (before tab (drop (at + 1) text)) (drop (at + 1) text))) (fields_of kinds (drop (before tab (drop (at + 1) text)) (drop (at + 1) text)))) None
        ≡ onwards (step_of kind at text) kinds text
    at_tab h true e =
        let within : at + 1 ≤ length text = omega arith in
        rw (← part (at + 1) (before tab (drop (at + 1) text)) text within, drop-drop (before tab (drop (at + 1) text)) (at + 1) text, ← place (at + 1) text within)
        (ended (field_of kind (slice (at + 1) (place_of tab (at + 1) text) text)) (place_of tab (at + 1) text) kinds text
        ∙ ap (λ (s : Option (ℕ × ℕ)). onwards s kinds text) (a_tab kind at text h (eqb-true (get_or text at 0) tab e)))
    at_tab h false e = ap (λ (s : Option (ℕ × ℕ)). onwards s kinds text) (no_tab kind at text h (eqb-false (get_or text at 0) tab e))

    go : (t : Bool) → ltb at (length text) ≡ t → fields_of (kind ∷ kinds) (drop at text) ≡ onwards (step_of kind at text) kinds text
    go true e =
        let h = ltb-true at (length text) e in
        rw (drop-cons text at 0 h, ← add-one at) (at_tab h (eqb (get_or text at 0) tab) refl)
    go false e =
        let h = ltb-false at (length text) e in
        rw (drop_of_length-le text h) (ap (λ (s : Option (ℕ × ℕ)). onwards s kinds text) (no_more kind at text h))

-- ---- values ahead of others

pub ahead_one : (vs : List ℕ) (v : ℕ) (rest : Values) → ahead vs (with (Some v) rest) ≡ ahead (vs ++ (v ∷ [])) rest
ahead_one vs v (Some ws) = ap Some (sym (append_assoc vs (v ∷ []) ws))
ahead_one vs v None = refl

pub ahead_none : (rest : Values) → ahead [] rest ≡ rest
ahead_none (Some ws) = refl
ahead_none None = refl

-- ---- a line

module _ (letter : ℕ) (kinds text : List ℕ) where
  pub other_line : begins_with letter text ≡ false → None ≡ line_of letter kinds text
  unfolding line_of begins_with
  other_line = go text
    where
      go : (xs : List ℕ) → begins_with letter xs ≡ false → None ≡ line_of letter kinds xs
      go [] e = refl
      go (x ∷ xs) e = rw e

  pub begun : begins_with letter text ≡ true → (line_of letter kinds text ≡ fields_of kinds (drop 1 text)) × (1 ≤ length text)
  unfolding line_of begins_with
  begun = go text
    where
      go : (xs : List ℕ) → begins_with letter xs ≡ true → (line_of letter kinds xs ≡ fields_of kinds (drop 1 xs)) × (1 ≤ length xs)
      go [] e = absurd (true≢false (sym e))
      go (x ∷ xs) e = (rw e, omega arith)

-- with k values read, and the line read up to `at`
module _ (letter : ℕ) (kinds text values : List ℕ) (at k : ℕ) (inv : line_of letter kinds text ≡ ahead (take k values) (fields_of (drop k kinds) (drop at text))) where
  turn : k < length kinds → line_of letter kinds text ≡ ahead (take k values) (onwards (step_of (get_or kinds k 0) at text) (drop (k + 1) kinds) text)
  turn h =
      let cut : drop k kinds ≡ get_or kinds k 0 ∷ drop (k + 1) kinds = rw add-one (drop-cons kinds k 0 h) in
      rw (cut, field) at inv

  pub turn_none : k < length kinds → step_of (get_or kinds k 0) at text ≡ None → None ≡ line_of letter kinds text
  turn_none h e = sym (rw e at (turn h))

  pub turn_one : k < length kinds → k < length values → {v e : ℕ} → step_of (get_or kinds k 0) at text ≡ Some (v, e)
      → line_of letter kinds text ≡ ahead (take (k + 1) (set values k v)) (fields_of (drop (k + 1) kinds) (drop e text))
  turn_one h l {v} {e} q = (rw q at (turn h)) ∙ ahead_one (take k values) v (fields_of (drop (k + 1) kinds) (drop e text)) ∙ rw (add-one k, take-suc-set values k v l)

  pub last : k ≡ length kinds → length values ≡ length kinds → then_some (leb (length text) at) values ≡ line_of letter kinds text
  unfolding fields_of
  last e l = go (leb (length text) at) refl
    where
      rest : line_of letter kinds text ≡ ahead values (fields_of [] (drop at text))
      rest = rw (e, drop-length, ← l, take-length) at inv

      go : (t : Bool) → leb (length text) at ≡ t → then_some t values ≡ line_of letter kinds text
      go true q = sym (rw (drop_of_length-le text (leb-true (length text) at q), append-nil) at rest)
      go false q = sym (rw (drop-cons text at 0 (leb-false (length text) at q)) at rest)
