-- The nodes that the stencils of a region's cells reach: 6 along each axis from the region's first cell on. A stage looks for their places once a region. Definitions, and
-- what is proved of them.
-- Assumes nothing.
use Rattle.std.specs.Prelude.{◌≡◌, Bool, true, false, List, [], ◌∷◌, ℕ, zero, suc, ◌+◌, ◌*◌, ◌/◌, ◌%◌, ◌≤◌, ◌<◌, Float, length, get_or, None, Option, Some}
use Rattle.packing.specs.Ids.{dim2, packed_id, sum, region, stencil_of}
use Rattle.numeric.specs.Round.{cast_u32}
use Rattle.cells.specs.Cells.{nearest, one_off, cell_associated_to_point}
use Rattle.cells.specs.Lookup.{lookup}
use Rattle.cells.specs.Stencil.{step_at}
use Rattle.grid.specs.Nodes.{region_cells}
use Rattle.grid.specs.Table.{all}
use Rattle.particles.specs.Particles.{position_of}
use Rattle.particles.specs.Places.{node_place}
use Rattle.particles.specs.Table.{bad_flag, not_finite, OnGrid, is_at}
use Rattle.particles.specs.declared.particle.Particle.{Particle}

-- along each axis: the 4 of the region, and 2 more that a stencil reaches
abbrev pub block_side : ℕ
block_side = 6

abbrev pub block_cells : ℕ
block_cells = block_side * block_side

-- the cell that lies x and y beyond a region's first
abbrev pub beyond : ℕ → ℕ → ℕ → ℕ
beyond r x y = sum dim2 r (packed_id dim2 (x ∷ y ∷ []))

-- the region itself, and those that its stencils reach: beyond it along x, along y, and along both
abbrev pub reach_of : List ℕ → ℕ → List (Option ℕ)
reach_of ids r = lookup ids (beyond r 0 0) ∷ lookup ids (beyond r 4 0) ∷ lookup ids (beyond r 0 4) ∷ lookup ids (beyond r 4 4) ∷ []

-- a block holds numbers: 0 for none, and of a place one more
abbrev pub found_at : ℕ → Option ℕ
found_at zero = None
found_at (suc k) = Some k

-- the places of a region's block, row by row
abbrev pub IsBlock : List ℕ → ℕ → List ℕ → Type 0
IsBlock ids r block = (x y : ℕ) → x < block_side → y < block_side → found_at (get_or block (x + block_side * y) 0) ≡ node_place ids (beyond r x y)

-- whatever place a block has is below n
abbrev pub BlockIn : List ℕ → ℕ → Type 0
BlockIn block n = (k : ℕ) → get_or block k 0 ≤ n

-- where a stencil begins in its region's block, by the coordinates of its first cell
abbrev pub corner_in : ℕ → ℕ → ℕ
corner_in x y = x % 4 + block_side * (y % 4)

-- and that of a particle
abbrev pub corner_of : Float → Particle → ℕ
corner_of h q = corner_in (one_off (cast_u32 (nearest h q.position.x))) (one_off (cast_u32 (nearest h q.position.y)))

-- the place of the node that lies x and y beyond a corner
abbrev pub place_at : List ℕ → ℕ → ℕ → ℕ → Option ℕ
place_at block corner x y = found_at (get_or block (corner + (x + block_side * y)) 0)

-- every node of the stencil that begins at a corner has a place
abbrev pub AllThere : List ℕ → ℕ → Type 0
AllThere block corner = (x y : ℕ) → x < 3 → y < 3 → is_at (place_at block corner x y) ≡ true

-- a particle that stands in the region whose first cell is (x, y), as the code sees it
pub record Stands (h : Float) (x y : ℕ) (q : Particle) : Type 0 where
  pub flags : bad_flag q ≡ false
  pub numbers : not_finite q ≡ false
  pub on_grid_lem : OnGrid h q
  pub along_x : one_off (cast_u32 (nearest h q.position.x)) / 4 ≡ x / 4
  pub along_y : one_off (cast_u32 (nearest h q.position.y)) / 4 ≡ y / 4

-- whether every region that a region's stencils reach is listed
abbrev pub surrounded : List ℕ → ℕ → Bool
surrounded ids r = all is_at (reach_of ids r)

-- ---- what is proved of a region's block

pub record Laws (ids : List ℕ) (r : ℕ) (block : List ℕ) (is : IsBlock ids r block) : Type 0 where
  -- In the block of a particle's own region stand the places of its stencil, column by column.
  pub stencil : (h : Float) (q : Particle) → region (cell_associated_to_point dim2 h (position_of q)) ≡ r → (i j : ℕ) → i < 3 → j < 3
      → place_at block (corner_of h q) (step_at i) (step_at j) ≡ node_place ids (get_or (stencil_of dim2 (cell_associated_to_point dim2 h (position_of q))) (i * 3 + j) 0)
  -- They are places of nodes.
  pub places : length block ≡ block_cells → BlockIn block (length ids * region_cells)
