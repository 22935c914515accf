-- Document 01, "The bench listing": a line is a letter and fields with tabs before them; floats are 8 uppercase hex digits of their bits, other numbers are plain decimal below
-- 2^64, no leading zeros. Definitions, and what is proved of them.
-- Assumes nothing.
use Rattle.std.specs.Prelude.{◌≡◌, cond, List, [], ◌∷◌, ◌++◌, ℕ, ◌^◌, ◌<◌, take, drop, eqb, None, Option, Some}
use Rattle.fields.specs.Read.{before, hex_of, decimal_of}
use Rattle.fields.specs.Write.{digits_of, text_of}

abbrev pub tab : ℕ
tab = 9

abbrev pub line_feed : ℕ
line_feed = 10

-- ---- a field

-- its kind, by a letter: `f` for a float; any other letter, `d` where one is written, for a plain decimal
abbrev pub float : ℕ
float = 102

abbrev pub decimal : ℕ
decimal = 100

-- a field's values lie below
abbrev pub limit : ℕ → ℕ
limit kind = cond (eqb kind float) (2 ^ 32) (2 ^ 64)

-- how a value is printed
unfoldable pub field_text : ℕ → ℕ → List ℕ
field_text kind v = cond (eqb kind float) (digits_of 16 8 v) (text_of v)

-- how one is read
unfoldable pub field_of : ℕ → List ℕ → Option ℕ
field_of kind text = cond (eqb kind float) (hex_of 8 text) (decimal_of text)

-- ---- a line: its head and the kinds of its fields

-- the first value of those that are left; a missing one counts as 0
abbrev pub first_of : List ℕ → ℕ
first_of [] = 0
first_of (v ∷ vs) = v

-- each field behind a tab
unfoldable pub fields_text : List ℕ → List ℕ → List ℕ
fields_text [] values = []
fields_text (kind ∷ kinds) values = tab ∷ field_text kind (first_of values) ++ fields_text kinds (drop 1 values)

-- the printed form of a line: its head, its fields, and the line feed that ends it
abbrev pub line_text : List ℕ → List ℕ → List ℕ → List ℕ
line_text head kinds values = head ++ fields_text kinds values

abbrev pub ended_text : List ℕ → List ℕ → List ℕ → List ℕ
ended_text head kinds values = line_text head kinds values ++ (line_feed ∷ [])

-- ---- how a line is read

-- the values of the fields; None where the line is none of its kind
abbrev pub Values : Type 0
Values = Option (List ℕ)

-- a value ahead of others
abbrev pub with : Option ℕ → Values → Values
with (Some v) (Some vs) = Some (v ∷ vs)
with (Some v) None = None
with None rest = None

-- exactly the fields of the kinds, each from behind its tab up to the next one
unfoldable pub fields_of : List ℕ → List ℕ → Values
fields_of [] [] = Some []
fields_of [] (x ∷ text) = None
fields_of (kind ∷ kinds) [] = None
fields_of (kind ∷ kinds) (x ∷ text) =
    cond (eqb x tab) (with (field_of kind (take (before tab text) text)) (fields_of kinds (drop (before tab text) text))) None

-- a line that begins with the letter
unfoldable pub line_of : ℕ → List ℕ → List ℕ → Values
line_of letter kinds [] = None
line_of letter kinds (x ∷ text) = cond (eqb x letter) (fields_of kinds text) None

-- ---- what is proved: readable is to be equal to the printed form of some values

-- a value for each field, each below its limit
abbrev pub Fit : List ℕ → List ℕ → Type 0
Fit [] [] = Unit {0}
Fit [] (v ∷ vs) = ⊥
Fit (kind ∷ kinds) [] = ⊥
Fit (kind ∷ kinds) (v ∷ vs) = (v < limit kind) × Fit kinds vs

pub record Laws : Type 0 where
  -- what is read are values whose printed form the line is
  pub sound : (letter : ℕ) (kinds text values : List ℕ) → line_of letter kinds text ≡ Some values → Fit kinds values × (text ≡ line_text (letter ∷ []) kinds values)
  -- and every printed form is read, to its values
  pub complete : (letter : ℕ) (kinds values : List ℕ) → Fit kinds values → line_of letter kinds (line_text (letter ∷ []) kinds values) ≡ Some values
