-- What holds of ids, sums, regions, colours and stencils in each dimension. Whoever stands above this crate knows its definitions by these laws alone.
-- Assumes nothing.
use Rattle.std.specs.Prelude.{◌≡◌, ℕ, ◌+◌, ◌*◌, ◌/◌, ◌%◌, ◌^◌, ◌<◌, T, ◌↔◌, List, [], ◌∷◌, length, bit_and, slice_index, slice_index_or}
use Rattle.packing.specs.Mask.{Mask, num, count, coord, place, bits, axis_sum, coords, wrapped, sums, whole, minus}
use Rattle.packing.specs.Ids.{Dim, dim2, packed_id, coordinates, sum, region, number, cell_of, colour, packed_shifts, packed_region_shifts, stencil_of}
use Rattle.packing.specs.Neighbours.{◌∈◌, Distinct, IsCell, IsRegion, reach, carry, Reaches, reached_by, Common, nears, parities}

-- ---- of any mask

pub record OfMask (m : Mask) : Type 0 where
  -- 1. Reading what was placed gives it back, modulo 2 to the number of the mask's bits; placing what was read leaves the mask's bits of the id.
  pub back : (c : ℕ) → coord m (place m c) ≡ c % 2 ^ count m
  pub again : (i : ℕ) → place m (coord m i) ≡ bit_and i (num m)

-- of a mask that is a number of 64 bits
pub record OfSum (mask : ℕ) : Type 0 where
  -- 2. A masked sum is the sum of the coordinates, modulo 2 to the number of the mask's bits, whatever stray bits its arguments have, and has none itself.
  pub adds : (i j : ℕ) → coord (bits 64 mask) (axis_sum mask i j) ≡ (coord (bits 64 mask) i + coord (bits 64 mask) j) % 2 ^ count (bits 64 mask)
  pub ignores : (i j : ℕ) → axis_sum mask (bit_and i mask) (bit_and j mask) ≡ axis_sum mask i j
  pub clean : (i j : ℕ) → bit_and (axis_sum mask i j) mask ≡ axis_sum mask i j

-- ---- of a dimension

pub record Laws (d : Dim) : Type 0 where
  -- 1. What is packed is unpacked, each coordinate modulo 2 to the number of its bits.
  pub unpacked : (cs : List ℕ) → coordinates d (packed_id d cs) ≡ wrapped d.axes cs
  -- 2. A sum adds coordinates, modulo 2 to the number of their bits, whatever stray bits its arguments have, and has none itself.
  pub adds : (i j : ℕ) → coords d.sum_axes (sum d i j) ≡ sums d.sum_axes (coords d.sum_axes i) (coords d.sum_axes j)
  pub ignores : (i j : ℕ) → sum d (bit_and i (whole d.sum_axes)) (bit_and j (whole d.sum_axes)) ≡ sum d i j
  -- Adding two packed ids adds their coordinates.
  pub adds_packed : (a b : List ℕ) → coords d.sum_axes (sum d (packed_id d a) (packed_id d b)) ≡ sums d.sum_axes a b
  -- 3. Cells are a commutative group.
  pub closed : (i j : ℕ) → IsCell d (sum d i j)
  pub assoc : (i j k : ℕ) → sum d (sum d i j) k ≡ sum d i (sum d j k)
  pub comm : (i j : ℕ) → sum d i j ≡ sum d j i
  pub none : IsCell d 0
  pub neutral : {i : ℕ} → IsCell d i → sum d i 0 ≡ i
  pub negated : (i : ℕ) → IsCell d (minus d.sum_axes i)
  pub inverse : (i : ℕ) → sum d i (minus d.sum_axes i) ≡ 0
  -- 4. A cell is its region and its number, and these two fix it.
  pub rejoined : {i : ℕ} → IsCell d i → cell_of d (region i) (number d i) ≡ i
  pub fixed : {i j : ℕ} → IsCell d i → IsCell d j → region i ≡ region j → number d i ≡ number d j → i ≡ j
  pub is_region : {i : ℕ} → IsCell d i → IsRegion d (region i)
  pub is_cell : (r n : ℕ) → IsCell d (cell_of d r n)
  pub region_of : {r : ℕ} → IsRegion d r → (n : ℕ) → region (cell_of d r n) ≡ r
  pub number_of : (r n : ℕ) → number d (cell_of d r n) ≡ n % 4 ^ length d.sum_axes
  -- 5. The region of each stencil id of a cell is the cell's region or one of its neighbours; which one follows from the cell's number and the shift.
  pub carries : {i : ℕ} → IsCell d i → (shift : ℕ) → region (sum d i shift) ≡ sum d (region i) (carry d (number d i) shift)
  pub carried : (n : ℕ) {shift : ℕ} → shift ∈ packed_shifts d → carry d n shift ∈ 0 ∷ packed_region_shifts d
  pub reaches : {i x : ℕ} → IsCell d i → x ∈ stencil_of d i → region x ∈ reach d (region i)
  -- A region's neighbours are regions.
  pub regions : {r x : ℕ} → IsRegion d r → x ∈ reach d r → IsRegion d x
  -- The regions whose cells' stencils can reach a region are that region and that region minus each neighbour shift.
  pub reached : {q r : ℕ} → IsRegion d q → IsRegion d r → Reaches d q r ↔ (q ∈ reached_by d r)
  -- 6. Two regions, each with its neighbours, have a region in common exactly when their block coordinates differ by at most 1 on each axis.
  pub common : {p q : ℕ} → IsRegion d p → IsRegion d q → Common d p q ↔ T (nears d.sum_axes p q)
  -- Colour is the parity of block coordinates.
  pub parity : {i : ℕ} → IsCell d i → colour d i ≡ parities d.sum_axes i
  -- Two different regions of one colour have none in common.
  pub apart : {p q : ℕ} → IsRegion d p → IsRegion d q → colour d p ≡ colour d q → Common d p q → p ≡ q
  -- 7. The ids of a stencil differ from each other.
  pub differ : {i : ℕ} → IsCell d i → Distinct (stencil_of d i)
  -- They are cells, and the one at place k is the cell plus the shift at place k.
  pub cells : (i : ℕ) {x : ℕ} → x ∈ stencil_of d i → IsCell d x
  pub in_order : (i k : ℕ) → k < length (packed_shifts d) → slice_index (stencil_of d i) k ≡ sum d i (slice_index (packed_shifts d) k)
  -- 8. What lies at a shift from a region's first cell is in the region moved by the shift's own, and has the shift's own number there.
  pub moved : (r shift : ℕ) → region (sum d (region r) shift) ≡ sum d (region r) (region shift)
  pub numbered : (r shift : ℕ) → number d (sum d (region r) shift) ≡ number d shift
  -- 9. A colour is below 2 to the number of axes, a number in a region below 4 to it; there is a packed shift, and a stencil's cell, for each shift. Whatever stray bits an id has.
  pub colours : (r : ℕ) → colour d r < 2 ^ length d.sum_axes
  pub numbers : (i : ℕ) → number d i < 4 ^ length d.sum_axes
  pub shifted : length (packed_shifts d) ≡ length d.shifts
  pub stencils : (i : ℕ) → length (stencil_of d i) ≡ length d.shifts

-- ---- of the plane

pub record Plane : Type 0 where
  -- 10. It has two axes, and 9 shifts.
  pub axes : length dim2.sum_axes ≡ 2
  pub shifts : length dim2.shifts ≡ 9
  -- 11. What is packed is a cell: in 2D sums see every bit that packing keeps.
  pub packed : (cs : List ℕ) → IsCell dim2 (packed_id dim2 cs)
  -- 12. Its region and its number there, by its coordinates.
  pub region_packed : (x y : ℕ) → region (packed_id dim2 (x ∷ y ∷ [])) ≡ packed_id dim2 (x / 4 * 4 ∷ y / 4 * 4 ∷ [])
  pub number_packed : (x y : ℕ) → number dim2 (packed_id dim2 (x ∷ y ∷ [])) ≡ x % 4 + 4 * (y % 4)
  -- 13. The k-th cell of a cell's stencil lies from the region's first cell by what the cell does and the shift, together.
  pub stencil : {i : ℕ} → IsCell dim2 i → (k x y : ℕ) → k < 9 → slice_index_or dim2.shifts k [] ≡ x ∷ y ∷ []
      → slice_index (stencil_of dim2 i) k ≡ sum dim2 (region i) (packed_id dim2 ((number dim2 i % 4 + x) ∷ (number dim2 i / 4 + y) ∷ []))
  -- 14. The ids by which a region is moved: not at all, along x, along y, and along both.
  pub moves : (packed_id dim2 (0 ∷ 0 ∷ []) ≡ 0) × (packed_id dim2 (4 ∷ 0 ∷ []) ≡ 4096) × (packed_id dim2 (0 ∷ 4 ∷ []) ≡ 8192) × (packed_id dim2 (4 ∷ 4 ∷ []) ≡ 12288)
