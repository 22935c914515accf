-- What is proved of a line: what is read is the printed form of its values, every printed form is read, a readable line is short, and a printed one has no line feed in it.
-- Assumes nothing.
use Rattle.std.proofs.Common.{None, Option, Some, ℕ, suc, ◌+◌, ◌^◌, ◌≤◌, ◌<◌, ◌≡◌, refl, ap, Bool, true, false, cond, List, [], ◌∷◌, ◌++◌, arith, length, take, drop, length-append, take-append-drop, take_at, drop_at, eqb, eq-eqb, eqb-true}
use Rattle.fields.specs.Read.{before, hex_of, decimal_of}
use Rattle.fields.specs.Write.{digits_of, text_of}
use Rattle.fields.proofs.Back.{hex_back, decimal_back}
use Rattle.fields.proofs.Forth.{hex_forth, decimal_forth, length_text, before_past, digits_without, text_without}
use Rattle.fields.proofs.Writing.{length_digits}
use Rattle.listing.specs.Lines.{tab, line_feed, float, limit, field_text, field_of, first_of, fields_text, line_text, Values, with, fields_of, line_of, Fit, Laws}

-- ---- a field

field_sound : (kind v : ℕ) (text : List ℕ) → field_of kind text ≡ Some v → (v < limit kind) × (text ≡ field_text kind v)
unfolding field_of field_text
field_sound kind v text = go (eqb kind float)
  where
    go : (t : Bool) → cond t (hex_of 8 text) (decimal_of text) ≡ Some v → (v < cond t (2 ^ 32) (2 ^ 64)) × (text ≡ cond t (digits_of 16 8 v) (text_of v))
    go true e = let r = hex_forth 8 v text e in (omega (arith, r.0), r.2)
    go false e = decimal_forth v text e

field_complete : (kind v : ℕ) → v < limit kind → field_of kind (field_text kind v) ≡ Some v
unfolding field_of field_text
field_complete kind v = go (eqb kind float)
  where
    go : (t : Bool) → v < cond t (2 ^ 32) (2 ^ 64) → cond t (hex_of 8 (cond t (digits_of 16 8 v) (text_of v))) (decimal_of (cond t (digits_of 16 8 v) (text_of v))) ≡ Some v
    go true l = hex_back 8 v (omega arith) (omega arith) (omega arith) (omega arith)
    go false l = decimal_back v l

-- how many bytes a field of a kind takes at most, with its tab
abbrev pub wide : ℕ → ℕ
wide kind = cond (eqb kind float) 9 21

field_short : (kind v : ℕ) → v < limit kind → suc (length (field_text kind v)) ≤ wide kind
unfolding field_text
field_short kind v = go (eqb kind float)
  where
    go : (t : Bool) → v < cond t (2 ^ 32) (2 ^ 64) → suc (length (cond t (digits_of 16 8 v) (text_of v))) ≤ cond t 9 21
    go true l = rw length_digits (omega arith)
    go false l = omega (arith, length_text v l)

-- no tab in it, nor a line feed
field_without : (b kind v : ℕ) → b < 48 → before b (field_text kind v) ≡ length (field_text kind v)
unfolding field_text
field_without b kind v h = go (eqb kind float)
  where
    go : (t : Bool) → before b (cond t (digits_of 16 8 v) (text_of v)) ≡ length (cond t (digits_of 16 8 v) (text_of v))
    go true = digits_without b h 16 8 v
    go false = text_without b h v

-- ---- the fields

-- a field that was read: its value, and what stands behind it
with_are : (f : Option ℕ) (r : Values) (values : List ℕ) → with f r ≡ Some values → (v : ℕ) × (vs : List ℕ) × (f ≡ Some v) × (r ≡ Some vs) × (values ≡ v ∷ vs)
with_are (Some v) (Some vs) values e = (v, vs, refl, refl, cc)
with_are (Some v) None values e = let z : ◌≡◌ {A = ℕ} 0 1 = cc in absurd (omega arith)
with_are None r values e = let z : ◌≡◌ {A = ℕ} 0 1 = cc in absurd (omega arith)

fields_sound : (kinds text values : List ℕ) → fields_of kinds text ≡ Some values → Fit kinds values × (text ≡ fields_text kinds values)
unfolding fields_of fields_text
fields_sound [] [] values e = let q : [] ≡ values = cc in rw (← q) (tt, refl)
fields_sound [] (x ∷ text) values e = let z : ◌≡◌ {A = ℕ} 0 1 = cc in absurd (omega arith)
fields_sound (kind ∷ kinds) [] values e = let z : ◌≡◌ {A = ℕ} 0 1 = cc in absurd (omega arith)
fields_sound (kind ∷ kinds) (x ∷ text) values e = go (fields_sound kinds (drop n text)) (eqb x tab) refl e
  where
    n : ℕ
    n = before tab text

    go : ((vs : List ℕ) → fields_of kinds (drop n text) ≡ Some vs → Fit kinds vs × (drop n text ≡ fields_text kinds vs))
        → (t : Bool) → eqb x tab ≡ t → cond t (with (field_of kind (take n text)) (fields_of kinds (drop n text))) None ≡ Some values
        → Fit (kind ∷ kinds) values × (x ∷ text ≡ fields_text (kind ∷ kinds) values)
    go rest true l e =
        let (v, vs, f, r, q) = with_are (field_of kind (take n text)) (fields_of kinds (drop n text)) values e in
        let h = field_sound kind v (take n text) f in
        let k = rest vs r in
        rw (q, eqb-true x tab l) ((h.0, k.0), rw (← h.1, ← k.1, take-append-drop n text))
    go rest false l e = let z : ◌≡◌ {A = ℕ} 0 1 = cc in absurd (omega arith)

-- what stands behind a field begins with a tab, or is nothing
fields_tab : (kinds values : List ℕ) → before tab (fields_text kinds values) ≡ 0
unfolding before fields_text
fields_tab [] values = refl
fields_tab (kind ∷ kinds) values = refl

fields_complete : (kinds values : List ℕ) → Fit kinds values → fields_of kinds (fields_text kinds values) ≡ Some values
unfolding fields_of fields_text
fields_complete [] [] f = refl
fields_complete [] (v ∷ vs) f = absurd f
fields_complete (kind ∷ kinds) [] f = absurd f
fields_complete (kind ∷ kinds) (v ∷ vs) f =
    let field = field_text kind v in
    let rest = fields_text kinds vs in
    let e : length field ≡ before tab (field ++ rest) =
    omega (arith, before_past tab field rest (field_without tab kind v (omega arith)), fields_tab kinds vs)
    in
    rw (take_at field rest _ e, drop_at field rest _ e, field_complete kind v f.0, fields_complete kinds vs f.1)

-- how many bytes fields of some kinds take at most
abbrev pub widest : List ℕ → ℕ
widest [] = 0
widest (kind ∷ kinds) = wide kind + widest kinds

pub fields_short : (kinds values : List ℕ) → Fit kinds values → length (fields_text kinds values) ≤ widest kinds
unfolding fields_text
fields_short [] values f = omega arith
fields_short (kind ∷ kinds) [] f = absurd f
fields_short (kind ∷ kinds) (v ∷ vs) f =
    rw length-append (omega (arith, field_short kind v f.0, fields_short kinds vs f.1))

pub fields_feed : (kinds values : List ℕ) → before line_feed (fields_text kinds values) ≡ length (fields_text kinds values)
unfolding fields_text before
fields_feed [] values = refl
fields_feed (kind ∷ kinds) values =
    let field = field_text kind (first_of values) in
    rw (before_past line_feed field (fields_text kinds (drop 1 values)) (field_without line_feed kind (first_of values) (omega arith)), fields_feed kinds (drop 1 values), length-append) (omega arith)

-- ---- a line

pub line_feed_lem : (head kinds values : List ℕ) → before line_feed head ≡ length head → before line_feed (line_text head kinds values) ≡ length (line_text head kinds values)
line_feed_lem head kinds values h = rw (before_past line_feed head (fields_text kinds values) h, fields_feed kinds values, length-append)

pub line_sound : (letter : ℕ) (kinds text values : List ℕ) → line_of letter kinds text ≡ Some values → Fit kinds values × (text ≡ line_text (letter ∷ []) kinds values)
unfolding line_of
line_sound letter kinds [] values e = let z : ◌≡◌ {A = ℕ} 0 1 = cc in absurd (omega arith)
line_sound letter kinds (x ∷ text) values e = go (eqb x letter) refl e
  where
    go : (t : Bool) → eqb x letter ≡ t → cond t (fields_of kinds text) None ≡ Some values → Fit kinds values × (x ∷ text ≡ letter ∷ fields_text kinds values)
    go true l e = let r = fields_sound kinds text values e in (r.0, rw (eqb-true x letter l) (ap (λ (ys : List ℕ). letter ∷ ys) r.1))
    go false l e = let z : ◌≡◌ {A = ℕ} 0 1 = cc in absurd (omega arith)

pub line_complete : (letter : ℕ) (kinds values : List ℕ) → Fit kinds values → line_of letter kinds (line_text (letter ∷ []) kinds values) ≡ Some values
unfolding line_of
line_complete letter kinds values f = rw (eq-eqb letter letter refl) (fields_complete kinds values f)

-- a line is no longer than its letter and its widest fields: no line of the listing is as long as 256 bytes
pub length_line : (letter : ℕ) (kinds text values : List ℕ) → line_of letter kinds text ≡ Some values → length text ≤ suc (widest kinds)
length_line letter kinds text values e =
    let r = line_sound letter kinds text values e in
    rw r.1 (omega (arith, fields_short kinds values r.0))

pub laws : Laws
laws = record { sound = line_sound; complete = line_complete }
