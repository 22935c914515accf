-- The laws of every mask, and those of 2D and 3D, where what is left is computed of the masks and shifts.
-- Assumes nothing.
use Rattle.std.proofs.Common.{◌≡◌, ℕ, ◌+◌, ◌*◌, ◌/◌, ◌%◌, ◌^◌, ◌<◌, List, [], ◌∷◌, map, length, get_or, sym, refl, ap, ◌∙◌, subst, ap₂, mod-eq_of_lt, arith}
use Rattle.std.proofs.Math.Nat.{mod-mod}
use Rattle.std.specs.Int.Bits.{bit_and}
use Rattle.packing.specs.Mask.{Mask, num, count, coord, place, bits, axis_sum, coords, whole, packed, below, wrapped, sums}
use Rattle.packing.specs.Ids.{dim2, dim3, packed_id, sum, region, cell_of, packed_shifts, stencil_of, number, from_fours, to_fours}
use Rattle.packing.specs.Neighbours.{IsCell}
use Rattle.packing.specs.Laws.{OfMask, OfSum, Laws, Plane}
use Rattle.packing.proofs.Linear.{run, alike}
use Rattle.packing.proofs.Group.{coord_place, place_coord, coord_lt, apart, from_all, disjoint, back}
use Rattle.packing.proofs.Sum.{place_mod, num_bits}
use Rattle.packing.proofs.Axis.{cut}
use Rattle.packing.proofs.Shifts.{just, all_in, has, same_list, grid}
use Rattle.packing.proofs.Regions.{all_cut, zeros, axes_of, floor, floors}
use Rattle.packing.proofs.Cells.{Good, leads, all_differ, absent, is_packed, by_coords, at_map, laws_of}

pub of_mask : (m : Mask) → OfMask m
of_mask m = record { back = coord_place m; again = place_coord m }

-- a coordinate is read without the bits outside of the mask, and placed without any
read_clean : (m : Mask) (i : ℕ) → coord m (bit_and i (num m)) ≡ coord m i
read_clean m i = ap (coord m) (sym (place_coord m i)) ∙ coord_place m (coord m i) ∙ mod-eq_of_lt (coord_lt m i)

place_clean : (m : Mask) (c : ℕ) → bit_and (place m c) (num m) ≡ place m c
place_clean m c = sym (place_coord m (place m c)) ∙ ap (place m) (coord_place m c) ∙ place_mod m c

pub of_sum : (mask : ℕ) → mask < 2 ^ 64 → OfSum mask
unfolding axis_sum
of_sum mask h =
    let m : Mask = bits 64 mask in
    let n : num (bits 64 mask) ≡ mask = num_bits 64 mask ∙ mod-eq_of_lt h in
    let read : (i : ℕ) → coord m (bit_and i mask) ≡ coord m i = λ i. subst (λ (x : ℕ). coord m (bit_and i x) ≡ coord m i) n (read_clean m i) in
    record {
      adds = λ i j. coord_place m ((coord m i + coord m j) % 2 ^ count m) ∙ mod-mod (coord m i + coord m j) (2 ^ count m);
      ignores = λ i j. ap₂ (λ (x y : ℕ). place m ((x + y) % 2 ^ count m)) (read i) (read j);
      clean =
          λ i j. subst (λ (x : ℕ). bit_and (axis_sum mask i j) x ≡ axis_sum mask i j) n (place_clean m ((coord m i + coord m j) % 2 ^ count m));
    }

pub good2 : Good dim2
unfolding dim2 below disjoint from_all apart all_cut cut count just all_in has same_list grid zeros leads run alike coord whole num all_differ absent packed_shifts packed place
good2 =
    record { bit = 64; sees = refl; packs = tt; adds = tt; cuts = tt; stencil = tt; neighbours = tt; colours = tt; words = tt; differ = tt }

pub good3 : Good dim3
unfolding dim3 below disjoint from_all apart all_cut cut count just all_in has same_list grid zeros leads run alike coord whole num all_differ absent packed_shifts packed place
good3 =
    record { bit = 63; sees = refl; packs = tt; adds = tt; cuts = tt; stencil = tt; neighbours = tt; colours = tt; words = tt; differ = tt }

pub laws2 : Laws dim2
laws2 = laws_of dim2 good2

pub laws3 : Laws dim3
laws3 = laws_of dim3 good3

-- ---- of the plane

packed2 : (cs : List ℕ) → IsCell dim2 (packed_id dim2 cs)
unfolding dim2 packed_id
packed2 = is_packed dim2 good2

-- 28 digits of each are kept
kept2 : (x y : ℕ) → coords dim2.sum_axes (packed_id dim2 (x ∷ y ∷ [])) ≡ x % 2 ^ 28 ∷ y % 2 ^ 28 ∷ []
unfolding packed_id dim2 wrapped count
kept2 x y = back dim2.axes good2.packs (x ∷ y ∷ [])

number_packed2 : (x y : ℕ) → number dim2 (packed_id dim2 (x ∷ y ∷ [])) ≡ x % 4 + 4 * (y % 4)
unfolding number from_fours
number_packed2 x y = ap from_fours (kept2 x y) ∙ omega arith

region_packed2 : (x y : ℕ) → region (packed_id dim2 (x ∷ y ∷ [])) ≡ packed_id dim2 (x / 4 * 4 ∷ y / 4 * 4 ∷ [])
region_packed2 x y =
    by_coords dim2 good2 (laws2.is_region (packed2 (x ∷ y ∷ []))).cell (packed2 (x / 4 * 4 ∷ y / 4 * 4 ∷ []))
    (floors dim2.sum_axes (axes_of dim2.sum_axes good2.cuts) (packed_id dim2 (x ∷ y ∷ [])) ∙ ap (map floor) (kept2 x y)
    ∙ ap₂ (λ (a b : ℕ). a ∷ b ∷ []) (omega arith) (omega arith) ∙ sym (kept2 (x / 4 * 4) (y / 4 * 4)))

summed2 : (a b x y : ℕ) → sums dim2.sum_axes (a ∷ b ∷ []) (x ∷ y ∷ []) ≡ (a + x) % 2 ^ 28 ∷ (b + y) % 2 ^ 28 ∷ []
unfolding sums dim2 count
summed2 a b x y = refl

sum_packed2 : (a b x y : ℕ) → sum dim2 (packed_id dim2 (a ∷ b ∷ [])) (packed_id dim2 (x ∷ y ∷ [])) ≡ packed_id dim2 ((a + x) ∷ (b + y) ∷ [])
sum_packed2 a b x y =
    by_coords dim2 good2 (laws2.closed (packed_id dim2 (a ∷ b ∷ [])) (packed_id dim2 (x ∷ y ∷ []))) (packed2 ((a + x) ∷ (b + y) ∷ []))
    (laws2.adds_packed (a ∷ b ∷ []) (x ∷ y ∷ []) ∙ summed2 a b x y ∙ sym (kept2 (a + x) (b + y)))

cell_of2 : (r n : ℕ) → cell_of dim2 r n ≡ sum dim2 (region r) (packed_id dim2 (n % 4 ∷ n / 4 % 4 ∷ []))
unfolding cell_of packed_id dim2 to_fours
cell_of2 r n = refl

two_axes : length dim2.sum_axes ≡ 2
unfolding dim2
two_axes = refl

nine_shifts : length dim2.shifts ≡ 9
unfolding dim2
nine_shifts = refl

-- a cell by its region and its number
cell2 : {i : ℕ} → IsCell dim2 i → i ≡ sum dim2 (region i) (packed_id dim2 (number dim2 i % 4 ∷ number dim2 i / 4 ∷ []))
cell2 {i} p =
    let n = number dim2 i in
    let e : n / 4 % 4 ≡ n / 4 = omega (arith, rw two_axes at (laws2.numbers i)) in
    sym (laws2.rejoined p) ∙ cell_of2 (region i) n ∙ rw (e, (laws2.is_region p).whole)

shift2 : (k : ℕ) → k < 9 → get_or (packed_shifts dim2) k 0 ≡ packed_id dim2 (get_or dim2.shifts k [])
unfolding packed_shifts packed_id dim2
shift2 k l = at_map (packed dim2.sum_axes) [] dim2.shifts k l

-- the k-th cell of a stencil lies at the sum of both places from the region's first
stencil2 : {i : ℕ} → IsCell dim2 i → (k x y : ℕ) → k < 9 → get_or dim2.shifts k [] ≡ x ∷ y ∷ []
    → get_or (stencil_of dim2 i) k 0 ≡ sum dim2 (region i) (packed_id dim2 ((number dim2 i % 4 + x) ∷ (number dim2 i / 4 + y) ∷ []))
stencil2 {i} p k x y l e =
    let n = number dim2 i in
    laws2.in_order i k (rw (laws2.shifted, nine_shifts) l) ∙ ap (sum dim2 i) (shift2 k l ∙ ap (packed_id dim2) e)
    ∙ ap (λ (j : ℕ). sum dim2 j (packed_id dim2 (x ∷ y ∷ []))) (cell2 p)
    ∙ laws2.assoc (region i) (packed_id dim2 (n % 4 ∷ n / 4 ∷ [])) (packed_id dim2 (x ∷ y ∷ []))
    ∙ ap (sum dim2 (region i)) (sum_packed2 (n % 4) (n / 4) x y)

-- the shifts to a region itself and to its neighbours
reach2 : (packed_id dim2 (0 ∷ 0 ∷ []) ≡ 0) × (packed_id dim2 (4 ∷ 0 ∷ []) ≡ 4096) × (packed_id dim2 (0 ∷ 4 ∷ []) ≡ 8192) × (packed_id dim2 (4 ∷ 4 ∷ []) ≡ 12288)
unfolding packed_id dim2 packed place
reach2 = (refl, refl, refl, refl)

pub plane : Plane
plane =
    record {
      axes = two_axes;
      shifts = nine_shifts;
      packed = packed2;
      region_packed = region_packed2;
      number_packed = number_packed2;
      stencil = stencil2;
      moves = reach2;
    }
