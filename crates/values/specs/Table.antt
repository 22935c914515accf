-- Document 01, "Values to prove together": eleven in one table, one claim. Assumes nothing.
use Rattle.std.specs.Prelude.{true, false, List, [], ◌∷◌, ◌++◌, ◌≡◌, refl, ℕ, ◌^◌, T, pos, negsuc, Float, length}
use Rattle.std.specs.Float.{fin}
use Rattle.packing.specs.Ids.{dim2, dim3, packed_id, complement, sum}
use Rattle.packing.specs.Values as Packing
use Rattle.numeric.specs.Round.{round_away}
use Rattle.numeric.specs.Root.{root_of}
use Rattle.numeric.specs.Kernel.{eval_all}
use Rattle.numeric.specs.Values as Numeric

-- what a definition answers, and what the document says: `fin false m e` is m * 2 ^ e
pub data Row : Type 0 where
  whole : ℕ → ℕ → Row
  float : Float → Float → Row
  floats : List Float → List Float → Row

abbrev pub Right : Row → Type 0
Right (whole a b) = a ≡ b
Right (float a b) = a ≡ b
Right (floats a b) = a ≡ b

abbrev pub AllRight : List Row → Type 0
AllRight [] = T true
AllRight (r ∷ rs) = Right r × AllRight rs

infixr 30 ◌&◌
abbrev ◌&◌ : {A B : Type 0} → A → B → A × B
a & b = (a, b)

-- the document's column, by kind
abbrev pub whole_said : List Row → List ℕ
whole_said [] = []
whole_said (whole a b ∷ rs) = b ∷ whole_said rs
whole_said (float a b ∷ rs) = whole_said rs
whole_said (floats a b ∷ rs) = whole_said rs

abbrev pub floats_said : List Row → List Float
floats_said [] = []
floats_said (whole a b ∷ rs) = floats_said rs
floats_said (float a b ∷ rs) = b ∷ floats_said rs
floats_said (floats a b ∷ rs) = b ++ floats_said rs

abbrev pub table : List Row
table =
    whole (packed_id dim2 (2 ∷ 2 ∷ [])) 640
    ∷ whole (packed_id dim2 (5 ∷ 5 ∷ [])) 12608
    ∷ whole (packed_id dim2 (complement (negsuc 0) ∷ complement (negsuc 0) ∷ [])) 18446744073709548480
    ∷ whole (sum dim2 18446744073709548480 12608) 12288
    ∷ whole (packed_id dim2 (2 ^ 28 ∷ 0 ∷ [])) 0
    ∷ whole (packed_id dim3 (4 ∷ 4 ∷ 4 ∷ [])) 28672
    ∷ whole (packed_id dim3 (complement (negsuc 0) ∷ complement (negsuc 0) ∷ complement (negsuc 0) ∷ [])) 18446744073709551552
    ∷ whole (sum dim3 18446744073709551552 0) 9223372036854775744
    ∷ floats (eval_all (fin false 1 (pos 0))) (fin false 1 (negsuc 2) ∷ fin false 3 (negsuc 1) ∷ fin false 1 (negsuc 2) ∷ [])
    ∷ float (round_away (fin false 5 (negsuc 0))) (fin false 3 (pos 0))
    ∷ float (root_of (fin false 9 (negsuc 1))) (fin false 3 (negsuc 0))
    ∷ []

eleven : length table ≡ 11
eleven = refl

pub claim : AllRight table
claim =
    let p = Packing.values in
    let n = Numeric.values in
    p.two & p.five & p.negative & p.plus & p.wraps & p.four & p.negative3 & p.plus3 & n.weights & n.rounds & n.root & tt
