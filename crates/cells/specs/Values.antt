-- The definitions on values that can be followed by hand. Assumes nothing.
use Rattle.std.specs.Prelude.{◌≡◌, ℕ, false, List, [], ◌∷◌, map, refl, Some, None, Float}
use Rattle.std.proofs.Common.{ap}
use Rattle.std.specs.Float.{nan, inf, binary32}
use Rattle.std.specs.Float.Ieee.{neg, of_bits, to_bits, of_int, to_unsigned, round, mul, div}
use Rattle.packing.specs.Ids.{dim2, packed_id, region}
use Rattle.packing.specs.Values.{values as packed}
use Rattle.numeric.specs.Bits.{none, half, three_quarters, one, three_halves}
use Rattle.numeric.specs.Round.{round_away}
use Rattle.cells.specs.Cells.{coordinate, one_off, centre, cell_pos_closest_to_point, cell_at_point, cell_associated_to_point, region_associated_to_point}
use Rattle.cells.specs.Lookup.{lower, upper, halved, narrowed, left, searched, lookup}

abbrev bits : Float → ℕ
bits x = to_bits binary32 x

-- regions in ascending order, and out of order
abbrev five : List ℕ
five = 0 ∷ 4096 ∷ 8192 ∷ 12288 ∷ 16384 ∷ []

abbrev unsorted : List ℕ
unsorted = 8192 ∷ 0 ∷ 4096 ∷ []

pub record Values : Type 0 where
  -- h = 1: 1 and 1/2 have the coordinate 1; the f32 just below 1/2, NaN and -1 have 0; +infinity has the last
  pub coordinates : (coordinate one one ≡ 1) × (coordinate one half ≡ 1) × (coordinate one (of_bits binary32 0x3effffff) ≡ 0) × (coordinate one nan ≡ 0)
      × (coordinate one (neg one) ≡ 0) × (coordinate one (inf false) ≡ 4294967295)
  -- h = 0: 0/0 is NaN, 1/0 infinite
  pub width_zero : (coordinate none none ≡ 0) × (coordinate none one ≡ 4294967295)
  -- before 0 comes the last
  pub before : (one_off 0 ≡ 4294967295) × (one_off 1 ≡ 0) × (one_off 4294967295 ≡ 4294967294)
  -- 3 at h = 1/2 is 3/2; 2 ^ 24 + 1 lies half way, and goes to the even digit
  pub centres : (bits (centre half 3) ≡ 0x3fc00000) × (bits (centre one 16777217) ≡ 0x4b800000)
  -- h = 1/2: 3/4 lies half way between 1/2 and 1, and -1/2 has a centre of its own, though its coordinate is 0
  pub closest : map bits (cell_pos_closest_to_point half (three_quarters ∷ neg half ∷ [])) ≡ 0x3f800000 ∷ 0xbf000000 ∷ []
  -- h = 1/2: the cell (2, 2) is that of the point (1, 1), and the first of the stencil of (3/2, 3/2)
  pub ids : (cell_at_point dim2 half (one ∷ one ∷ []) ≡ 640) × (cell_associated_to_point dim2 half (three_halves ∷ three_halves ∷ []) ≡ 640)
      × (region_associated_to_point dim2 half (three_halves ∷ three_halves ∷ []) ≡ region 640)
  -- each axis has its own coordinate
  pub axes : (cell_at_point dim2 half (one ∷ none ∷ []) ≡ packed_id dim2 (2 ∷ 0 ∷ [])) × (cell_associated_to_point dim2 one (nan ∷ one ∷ []) ≡ packed_id dim2 (4294967295 ∷ 0 ∷ []))
  -- of five entries two are lower and three upper, from the third on
  pub parts : (lower (record { first = 0; count = 5 }) ≡ record { first = 0; count = 2 }) × (upper (record { first = 0; count = 5 }) ≡ record { first = 2; count = 3 })
  -- in no entries, in one and in five
  pub few : (lookup [] 0 ≡ None) × (lookup (4096 ∷ []) 4096 ≡ Some 0) × (lookup (4096 ∷ []) 0 ≡ None) × (lookup (4096 ∷ []) 8192 ≡ None)
  pub found : map (lookup five) five ≡ Some 0 ∷ Some 1 ∷ Some 2 ∷ Some 3 ∷ Some 4 ∷ []
  pub absent : map (lookup five) (4095 ∷ 20480 ∷ []) ≡ None ∷ None ∷ []
  -- 8192 stands first, and the upper part is kept twice; of two that are equal the upper is found
  pub others : (map (lookup unsorted) unsorted ≡ None ∷ Some 1 ∷ Some 2 ∷ []) × (lookup (4096 ∷ 4096 ∷ []) 4096 ≡ Some 1)

pub values : Values
unfolding cell_pos_closest_to_point cell_at_point cell_associated_to_point region_associated_to_point lookup searched left narrowed halved round_away round to_unsigned of_int mul div neg of_bits to_bits
values =
    record {
      coordinates = (refl, refl, refl, refl, refl, refl);
      width_zero = (refl, refl);
      before = (refl, refl, refl);
      centres = (refl, refl);
      closest = refl;
      ids = (packed.two, packed.two, ap region packed.two);
      axes = (refl, refl);
      parts = (refl, refl);
      few = (refl, refl, refl, refl);
      found = refl;
      absent = refl;
      others = (refl, refl);
    }
