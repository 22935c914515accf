-- Vectors as lists, an entry an axis, and matrices as lists of rows, so that the plane and space share each definition; and the plane's structs as such lists.
-- Definitions only.
use Rattle.std.specs.Prelude.{List, [], ◌∷◌, map, slice_index_or, Float}
use Rattle.std.specs.Float.{nan}
use Rattle.numeric.specs.Bits.{◌⊗◌, none, one}
use Rattle.numeric.specs.Kernel.{dot}
use Rattle.numeric.specs.declared.dim2.Vector.{Vector}
use Rattle.numeric.specs.declared.dim2.Matrix.{Matrix}

-- f of the entries of two lists, pair by pair
abbrev pub pairwise : {A B C : Type 0} → (A → B → C) → List A → List B → List C
pairwise f [] ys = []
pairwise f (x ∷ xs) [] = []
pairwise f (x ∷ xs) (y ∷ ys) = f x y ∷ pairwise f xs ys

-- zeros in the place of every entry, of a vector and of a matrix
abbrev pub zeros : List Float → List Float
zeros v = map (λ (x : Float). none) v

abbrev pub zero_rows : List (List Float) → List (List Float)
zero_rows m = map zeros m

-- the identity, with as many rows as a matrix
abbrev pub identity : List (List Float) → List (List Float)
identity [] = []
identity (row ∷ rows) = (one ∷ map (λ (r : List Float). none) rows) ∷ map (λ (r : List Float). none ∷ r) (identity rows)

-- u·wᵀ
abbrev pub outer : List Float → List Float → List (List Float)
outer u w = map (λ (x : Float). map (λ (y : Float). x ⊗ y) w) u

-- the columns of a matrix
abbrev pub columns : List (List Float) → List (List Float)
columns [] = []
columns (row ∷ []) = map (λ (x : Float). x ∷ []) row
columns (row ∷ next ∷ rows) = pairwise ◌∷◌ row (columns (next ∷ rows))

-- a·b, each entry the product of a row of a and a column of b
abbrev pub matrix_product : List (List Float) → List (List Float) → List (List Float)
matrix_product a b = map (λ (row : List Float). map (dot row) (columns b)) a

-- ---- in the plane

abbrev pub axes : Vector → List Float
axes v = v.x ∷ v.y ∷ []

abbrev pub rows : Matrix → List (List Float)
rows m = (m.m00 ∷ m.m01 ∷ []) ∷ (m.m10 ∷ m.m11 ∷ []) ∷ []

abbrev pub vector : List Float → Vector
vector xs = record { x = slice_index_or xs 0 nan; y = slice_index_or xs 1 nan }

abbrev pub matrix : List (List Float) → Matrix
matrix rows =
    record {
      m00 = slice_index_or (slice_index_or rows 0 []) 0 nan;
      m01 = slice_index_or (slice_index_or rows 0 []) 1 nan;
      m10 = slice_index_or (slice_index_or rows 1 []) 0 nan;
      m11 = slice_index_or (slice_index_or rows 1 []) 1 nan;
    }
