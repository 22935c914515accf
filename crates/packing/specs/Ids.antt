-- Document 01, "Ids": where the bits of the coordinates stand, sums, regions, colours, neighbours and stencils, over the axes of a dimension.
-- Assumes nothing.
use Rattle.std.specs.Prelude.{ℕ, zero, suc, ◌+◌, ◌-◌, ◌*◌, ◌/◌, ◌%◌, ◌^◌, Bool, ◌&&◌, ◌||◌, List, [], ◌∷◌, ◌++◌, map, length, ℤ, pos, negsuc, ◌==◌, nat_le}
use Rattle.packing.specs.Mask.{Mask, coords, packed, sum_of, below}

-- ---- the axes

-- k digits, from b on, by a test of each digit's place
unfoldable pub digits_by : (ℕ → Bool) → ℕ → ℕ → Mask
digits_by f zero b = []
digits_by f (suc k) b = f b ∷ digits_by f k (suc b)

-- bits 0 and 1 of the coordinate go to bits lo and lo + 1 of 64, and bit k (from 2 on) to bit hi + step · (k - 2)
unfoldable pub axis : ℕ → ℕ → ℕ → Mask
unfolding digits_by
axis lo hi step = digits_by (λ b. (b == lo) || b == suc lo || (nat_le hi b && (b - hi) % step == 0)) 64 0

-- what is fixed of a number of axes
pub record Dim : Type 0 where
  pub axes : List Mask
  -- the axes as sums see them
  pub sum_axes : List Mask
  -- the shifts of the stencil, and those of the neighbours of a region, in order
  pub shifts : List (List ℕ)
  pub region_shifts : List (List ℕ)

-- x and y keep 28 bits each
unfoldable pub axes2 : List Mask
unfolding axis
axes2 = axis 6 12 2 ∷ axis 8 13 2 ∷ []

-- x keeps 20 bits, y and z keep 19
unfoldable pub axes3 : List Mask
unfolding axis
axes3 = axis 6 12 3 ∷ axis 8 13 3 ∷ axis 10 14 3 ∷ []

-- the nine shifts of x and y, in order
unfoldable pub shifts2 : List (List ℕ)
shifts2 =
    (2 ∷ 2 ∷ []) ∷ (2 ∷ 0 ∷ []) ∷ (2 ∷ 1 ∷ []) ∷ (0 ∷ 2 ∷ []) ∷ (0 ∷ 0 ∷ []) ∷ (0 ∷ 1 ∷ [])
    ∷ (1 ∷ 2 ∷ []) ∷ (1 ∷ 0 ∷ []) ∷ (1 ∷ 1 ∷ []) ∷ []

-- in 3D the nine at z 2, then at z 0, then at z 1
abbrev at : ℕ → List ℕ → List ℕ
at z [] = z ∷ []
at z (c ∷ cs) = c ∷ at z cs

unfoldable pub shifts3 : List (List ℕ)
unfolding shifts2
shifts3 = map (at 2) shifts2 ++ map (at 0) shifts2 ++ map (at 1) shifts2

unfoldable pub dim2 : Dim
unfolding axes2 shifts2
dim2 =
    record {
      axes = axes2;
      sum_axes = axes2;
      shifts = shifts2;
      region_shifts = (0 ∷ 4 ∷ []) ∷ (4 ∷ 4 ∷ []) ∷ (4 ∷ 0 ∷ []) ∷ [];
    }

-- sums ignore bit 63
unfoldable pub dim3 : Dim
unfolding axes3 shifts3 below
dim3 =
    record {
      axes = axes3;
      sum_axes = below 63 axes3;
      shifts = shifts3;
      region_shifts =
          (0 ∷ 0 ∷ 4 ∷ []) ∷ (0 ∷ 4 ∷ 0 ∷ []) ∷ (0 ∷ 4 ∷ 4 ∷ []) ∷ (4 ∷ 0 ∷ 0 ∷ []) ∷ (4 ∷ 0 ∷ 4 ∷ [])
          ∷ (4 ∷ 4 ∷ 0 ∷ []) ∷ (4 ∷ 4 ∷ 4 ∷ []) ∷ [];
    }

-- ---- ids

-- packing places each coordinate; the bits without a place are lost
unfoldable pub packed_id : Dim → List ℕ → ℕ
packed_id d cs = packed d.axes cs

-- two's complement, of 32 bits
unfoldable pub complement : ℤ → ℕ
complement (pos n) = n
complement (negsuc n) = 2 ^ 32 - suc n

-- the cell whose coordinates all are z
unfoldable pub diagonal : Dim → ℤ → ℕ
unfolding complement
diagonal d z = packed d.axes (map (λ m. complement z) d.axes)

abbrev pub minus_one : ℤ
minus_one = negsuc 0

abbrev pub minus_two : ℤ
minus_two = negsuc 1

abbrev pub plus_five : ℤ
plus_five = pos 5

-- unpacking reads back exactly the kept bits
unfoldable pub coordinates : Dim → ℕ → List ℕ
coordinates d i = coords d.axes i

-- sums add each axis inside its mask; stray bits are ignored and answered 0
unfoldable pub sum : Dim → ℕ → ℕ → ℕ
sum d i j = sum_of d.sum_axes i j

-- ---- regions

-- the id with its low 12 bits zero
unfoldable pub region : ℕ → ℕ
region i = i / 2 ^ 12 * 2 ^ 12

-- x + 4·y + 16·z, of coordinates modulo 4
unfoldable pub from_fours : List ℕ → ℕ
from_fours [] = 0
from_fours (c ∷ cs) = c % 4 + 4 * from_fours cs

-- such coordinates, one for each axis
unfoldable pub to_fours : List Mask → ℕ → List ℕ
to_fours [] n = []
to_fours (m ∷ ms) n = n % 4 ∷ to_fours ms (n / 4)

-- the number of a cell in its region
unfoldable pub number : Dim → ℕ → ℕ
number d i = from_fours (coords d.sum_axes i)

-- the cell of a region by its number, modulo 4 for each axis
unfoldable pub cell_of : Dim → ℕ → ℕ → ℕ
cell_of d r n = sum d (region r) (packed d.sum_axes (to_fours d.sum_axes n))

-- the bits from 12 on, one for each axis
unfoldable pub colour : Dim → ℕ → ℕ
colour d r = r / 2 ^ 12 % 2 ^ length d.sum_axes

-- a colour out of range is no region's
abbrev pub in_colour : Dim → ℕ → ℕ → Bool
in_colour d r c = colour d r == c

unfoldable pub packed_region_shifts : Dim → List ℕ
packed_region_shifts d = map (packed d.sum_axes) d.region_shifts

unfoldable pub region_neighbours : Dim → ℕ → List ℕ
region_neighbours d r = map (sum d r) (packed_region_shifts d)

-- ---- stencils

unfoldable pub packed_shifts : Dim → List ℕ
packed_shifts d = map (packed d.sum_axes) d.shifts

-- a cell plus the shifts, in order
unfoldable pub stencil_of : Dim → ℕ → List ℕ
stencil_of d i = map (sum d i) (packed_shifts d)
