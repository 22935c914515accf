-- Document 01, "Float rules" and "Scatter": how the nodes of a particle's stencil lie to it, and what they weigh. Vectors are lists, an entry an axis, so that the plane and
-- space share each definition. Definitions only.
use Rattle.std.specs.Prelude.{◌≡◌, ℕ, suc, ◌+◌, ◌%◌, ◌^◌, ◌<◌, ◌≤◌, true, cond, List, [], ◌∷◌, map, slice_index_or, Float}
use Rattle.std.specs.Float.{nan}
use Rattle.packing.specs.Ids.{Dim}
use Rattle.numeric.specs.Bits.{◌⊕◌, ◌⊖◌, ◌⊗◌, one}
use Rattle.numeric.specs.Kernel.{product}
use Rattle.numeric.specs.Round.{cast_u32, nearest_to}
use Rattle.cells.specs.Cells.{nearest, in_range}

-- the cells of a stencil: 3 along each axis
abbrev pub stencil_cells : ℕ
stencil_cells = 3 ^ 2

-- the shift of the cell at a place of the stencil, a number an axis
abbrev pub shift_at : Dim → ℕ → List ℕ
shift_at d k = slice_index_or d.shifts k []

-- the shifts along one axis, in their order: 2, 0, 1
abbrev pub step_at : ℕ → ℕ
step_at i = (i + 2) % 3

-- as the code has a coordinate: the cast of one that is on the grid, which is never 0, and else 0
pub record IsCoordinate (r : Float) (n : ℕ) : Type 0 where
  pub is : n ≡ cond (in_range r) (cast_u32 r) 0
  pub below : n ≤ 65535
  pub whole : in_range r ≡ true → (0 < n) × (nearest_to n ≡ r)

-- With r = round(x/h): d = (r-1)·h - x.
unfoldable pub dir_to_associated_grid_node : Float → List Float → List Float
dir_to_associated_grid_node h xs = map (λ (x : Float). (nearest h x ⊖ one) ⊗ h ⊖ x) xs

-- dpt = d + shift·h
abbrev pub dpt_of : Float → List Float → List ℕ → List Float
dpt_of h [] ss = []
dpt_of h (d ∷ ds) [] = []
dpt_of h (d ∷ ds) (s ∷ ss) = d ⊕ nearest_to s ⊗ h ∷ dpt_of h ds ss

-- on each axis from a on, the weight that the shift picks of the three
abbrev pub picked : List (List Float) → ℕ → List ℕ → List Float
picked wss a [] = []
picked wss a (s ∷ ss) = slice_index_or (slice_index_or wss a []) s nan ∷ picked wss (suc a) ss

-- w = wx·wy
abbrev pub weight_of : List (List Float) → List ℕ → Float
weight_of wss ss = product (picked wss 0 ss)
