-- Document 01, "Float rules": the cell of a point and the centre of a cell, axis by axis. Points are lists, an entry an axis, so that the plane and space share
-- each definition. Definitions only.
use Rattle.std.specs.Prelude.{ℕ, ◌+◌, ◌-◌, ◌%◌, ◌^◌, Bool, ◌&&◌, List, map, from_bits, Float}
use Rattle.std.specs.Float.{binary32}
use Rattle.std.specs.Float.Ieee.{le}
use Rattle.packing.specs.Ids.{Dim, packed_id, coordinates, region}
use Rattle.numeric.specs.Bits.{◌⊗◌, ◌⊘◌, one}
use Rattle.numeric.specs.Round.{round_away, cast_u32, nearest_to}

-- ---- on an axis

-- r = round(x/h)
abbrev pub nearest : Float → Float → Float
nearest h x = round_away (x ⊘ h)

-- the coordinate of a point
abbrev pub coordinate : Float → Float → ℕ
coordinate h x = cast_u32 (nearest h x)

-- whether a coordinate is on the grid: from 1 to 65,535
abbrev pub greatest_coordinate : Float
greatest_coordinate = from_bits binary32 0x477fff00

abbrev pub in_range : Float → Bool
in_range r = le one r && le r greatest_coordinate

-- one off, wrapping
abbrev pub one_off : ℕ → ℕ
one_off c = (c + (2 ^ 32 - 1)) % 2 ^ 32

-- the coordinates that an id gives back, one an axis
abbrev pub read_back : Dim → ℕ → List ℕ
read_back d i = coordinates d i

-- Cell centre: unpacked coordinates, each rounded to f32 (ties to even), times h.
abbrev pub centre : Float → ℕ → Float
centre h c = nearest_to c ⊗ h

-- ---- over the axes

unfoldable pub cell_pos_closest_to_point : Float → List Float → List Float
cell_pos_closest_to_point h xs = map (λ (x : Float). nearest h x ⊗ h) xs

unfoldable pub cell_at_point : Dim → Float → List Float → ℕ
cell_at_point d h xs = packed_id d (map (coordinate h) xs)

unfoldable pub cell_associated_to_point : Dim → Float → List Float → ℕ
cell_associated_to_point d h xs = packed_id d (map (λ (x : Float). one_off (coordinate h x)) xs)

unfoldable pub region_associated_to_point : Dim → Float → List Float → ℕ
region_associated_to_point d h xs = region (cell_associated_to_point d h xs)

unfoldable pub cell_center : Dim → Float → ℕ → List Float
cell_center d h i = map (centre h) (read_back d i)
