-- Which regions a stencil reaches, and which regions have one in common.
-- Assumes nothing.
use Rattle.std.specs.Prelude.{◌≡◌, ℕ, ◌+◌, ◌*◌, ◌/◌, ◌%◌, ◌^◌, Bool, true, ◌&&◌, ◌||◌, List, [], ◌∷◌, map, ◌==◌}
use mathlib.Core.List.{Memᴰ}
use Rattle.packing.specs.Mask.{Mask, count, coord, minus, Clean}
use Rattle.packing.specs.Ids.{Dim, sum, region, cell_of, packed_region_shifts, region_neighbours, stencil_of}

infix 40 ◌∈◌
-- x stands in the list
abbrev pub ◌∈◌ : {A : Type 0} → A → List A → Type 0
x ∈ l = Memᴰ x l

-- the entries of a list differ from each other
abbrev pub Distinct : List ℕ → Type 0
Distinct [] = Unit {0}
Distinct (x ∷ l) = (x ∈ l → ⊥) × Distinct l

-- a cell of a dimension: an id without stray bits, in 3D with bit 63 clear; and the id of a region
abbrev pub IsCell : Dim → ℕ → Type 0
IsCell d i = Clean d.sum_axes i

pub record IsRegion (d : Dim) (r : ℕ) : Type 0 where
  pub cell : IsCell d r
  pub whole : region r ≡ r

-- a region with its neighbours
abbrev pub reach : Dim → ℕ → List ℕ
reach d r = r ∷ region_neighbours d r

-- by how much a shift carries the cell of this number into another region
unfoldable pub carry : Dim → ℕ → ℕ → ℕ
carry d n shift = region (sum d (cell_of d 0 n) shift)

-- some cell of q has a stencil that reaches into r
pub record Reaches (d : Dim) (q r : ℕ) : Type 0 where
  pub cell : ℕ
  pub is_cell : IsCell d cell
  pub of : region cell ≡ q
  pub id : ℕ
  pub in_stencil : id ∈ stencil_of d cell
  pub into : region id ≡ r

-- the region, and the region minus each shift to a neighbour
abbrev pub reached_by : Dim → ℕ → List ℕ
reached_by d r = r ∷ map (λ s. sum d r (minus d.sum_axes s)) (packed_region_shifts d)

-- two regions, each with its neighbours, have a region in common
pub record Common (d : Dim) (p q : ℕ) : Type 0 where
  pub shared : ℕ
  pub one : shared ∈ reach d p
  pub other : shared ∈ reach d q

-- the block coordinate of an id on an axis: its cell coordinate over 4; and how many there are
abbrev pub block : Mask → ℕ → ℕ
block m i = coord m i / 4

abbrev pub block_count : Mask → ℕ
block_count m = 2 ^ count m / 4

-- a and b differ by at most 1, modulo n
unfoldable pub near : ℕ → ℕ → ℕ → Bool
near n a b = a == b || (b == (a + 1) % n || a == (b + 1) % n)

-- on each axis
unfoldable pub nears : List Mask → ℕ → ℕ → Bool
unfolding near
nears [] p q = true
nears (m ∷ ms) p q = near (block_count m) (block m p) (block m q) && nears ms p q

-- the parities of the block coordinates, x first
unfoldable pub parities : List Mask → ℕ → ℕ
parities [] i = 0
parities (m ∷ ms) i = block m i % 2 + 2 * parities ms i
