-- Document 01's example, from text to text, and lines that are read and that are not, by computing the definitions. Computing goes through packing's definitions. Assumes nothing.
use Rattle.std.specs.Prelude.{List, [], ◌∷◌, ◌++◌, map, ◌≡◌, refl, ℕ, None, Some}
use Rattle.std.specs.Float.Ieee.{neg, lt, le, ne, eq, round, to_unsigned, add, sub, mul, div, of_bits, to_bits, of_int}
use Rattle.packing.specs.Mask.{coord, place, count, coords, packed, sums, sum_of}
use Rattle.packing.specs.Ids.{dim2, packed_id, coordinates, sum, region, number, from_fours, to_fours, cell_of, colour, packed_shifts, stencil_of}
use Rattle.numeric.specs.Kernel.{inv_d, eval_all, precompute_weights}
use Rattle.numeric.specs.Round.{round_away}
use Rattle.numeric.specs.Scalar.{inverse}
use Rattle.laws.specs.Hits.{hit, run, gather}
use Rattle.laws.specs.Refusals as Refusals
use Rattle.laws.specs.Store.{records}
use Rattle.cells.specs.Cells.{cell_associated_to_point, region_associated_to_point}
use Rattle.cells.specs.Stencil.{dir_to_associated_grid_node}
use Rattle.cells.specs.Lookup.{halved, narrowed, left, searched, lookup}
use Rattle.grid.specs.Nodes.{node_at, nodes}
use Rattle.grid.specs.Clear.{cleared}
use Rattle.grid.specs.Table.{finite, good_width, good_step, bad_region, region_ids, before, misplaced, cover}
use Rattle.particles.specs.Particles.{particle_at}
use Rattle.particles.specs.Places.{node_place}
use Rattle.particles.specs.Table.{bad_flag, not_finite, on_axis, off_grid, out_of_region, unlisted, judged, first_particle, out_of_regions, placed, checked}
use Rattle.scatter.specs.Scatter.{shift_hits, particle_hits, range_hits, region_hits, coloured_hits, colour_hits, scatter_hits, scattered, scatter_check}
use Rattle.scatter.specs.Hit.{brought, hit_by, hit_node, changed}
use Rattle.fields.specs.Read as Read
use Rattle.fields.specs.Write.{glyph_of, digits_of, places_of, text_of}
use Rattle.listing.specs.Lines.{field_text, field_of, fields_text, fields_of, line_of}
use Rattle.listing.specs.Listing.{w, settings_kinds, r, region_kinds, line_taken, read_from, read_listing}
use Rattle.listing.specs.Bench.{particle_of, node_text, shown, nodes_text, ok_text, no_text, listed, bench_check, bench_nodes, called, answer_to, answer}

-- ---- fields, each behind its tab

-- 0
abbrev zero : List ℕ
zero = 9 ∷ 48 ∷ 48 ∷ 48 ∷ 48 ∷ 48 ∷ 48 ∷ 48 ∷ 48 ∷ []

-- 1
abbrev one : List ℕ
one = 9 ∷ 51 ∷ 70 ∷ 56 ∷ 48 ∷ 48 ∷ 48 ∷ 48 ∷ 48 ∷ []

-- 6
abbrev six : List ℕ
six = 9 ∷ 52 ∷ 48 ∷ 67 ∷ 48 ∷ 48 ∷ 48 ∷ 48 ∷ 48 ∷ []

-- 36
abbrev thirty_six : List ℕ
thirty_six = 9 ∷ 52 ∷ 50 ∷ 49 ∷ 48 ∷ 48 ∷ 48 ∷ 48 ∷ 48 ∷ []

-- 64
abbrev sixty_four : List ℕ
sixty_four = 9 ∷ 52 ∷ 50 ∷ 56 ∷ 48 ∷ 48 ∷ 48 ∷ 48 ∷ 48 ∷ []

-- ---- document 01's example

abbrev feed : List ℕ
feed = 10 ∷ []

abbrev settings : List ℕ
settings = 119 ∷ one ++ (one ++ (zero ++ (zero ++ feed)))

-- region 0, from particle 0 on, one
abbrev one_region : List ℕ
one_region = 114 ∷ 9 ∷ 48 ∷ 9 ∷ 48 ∷ 9 ∷ 49 ∷ feed

-- a particle at (x, 1), v = (1, 0), m 64, V0 1, the rest 0
abbrev particle : List ℕ → List ℕ
particle x = 112 ∷ x ++ (one ++ (one ++ (zero ++ (zero ++ (zero ++ (zero ++ (zero ++ (zero ++ (zero ++ (zero ++ (zero ++ (sixty_four ++ (one ++ (zero ++ (zero ++ (zero ++ (9 ∷ 48 ∷ feed)))))))))))))))))

-- a node of mass m that moves as the particle does, at (x, y), by their digits
abbrev node : ℕ → ℕ → List ℕ → List ℕ
node x y m = 110 ∷ 9 ∷ x ∷ 9 ∷ y ∷ m ++ (m ++ (zero ++ (one ++ (zero ++ feed))))

abbrev nine : List ℕ
nine =
    node 48 48 one ++ (node 49 48 six ++ (node 50 48 one ++ (node 48 49 six ++ (node 49 49 thirty_six ++ (node 50 49 six ++ (node 48 50 one ++ (node 49 50 six ++ (node 50 50 one ++ (111 ∷ 107 ∷ 9 ∷ 57 ∷ feed)))))))))

-- `no`, number, index, by their digits
abbrev no : List ℕ → ℕ → List ℕ
no number index = 110 ∷ 111 ∷ 9 ∷ number ++ (9 ∷ index ∷ feed)

abbrev eleven : List ℕ
eleven = 49 ∷ 49 ∷ []

pub record Examples : Type 0 where
  -- the ten lines
  pub example : answer (settings ++ (one_region ++ particle one)) ≡ nine
  -- `w` alone
  pub alone : answer settings ≡ 111 ∷ 107 ∷ 9 ∷ 48 ∷ feed
  -- off the grid: 8 at particle 0; no region for the particle: 7 at 0
  pub refusals : (answer (settings ++ (one_region ++ particle zero)) ≡ no (56 ∷ []) 48) × (answer (settings ++ particle one) ≡ no (55 ∷ []) 48)
  -- unreadable: nothing; no line feed; an empty line; a second `w`; `r` after `p`; a carriage return ahead of the line feed
  pub empty : answer [] ≡ no eleven 48
  pub unended : answer (119 ∷ one ++ (one ++ (zero ++ zero))) ≡ no eleven 48
  pub blank : answer (settings ++ feed) ≡ no eleven 49
  pub twice : answer (settings ++ settings) ≡ no eleven 49
  pub late : answer (settings ++ (particle one ++ one_region)) ≡ no eleven 50
  pub returned : answer (settings ++ (114 ∷ 9 ∷ 48 ∷ 9 ∷ 48 ∷ 9 ∷ 49 ∷ 13 ∷ feed)) ≡ no eleven 49
  -- a line's values; a lower case digit, seven digits, nine, a tab at the end, a field too few
  pub line : line_of w settings_kinds (119 ∷ one ++ (six ++ (zero ++ sixty_four))) ≡ Some (0x3f800000 ∷ 0x40c00000 ∷ 0 ∷ 0x42800000 ∷ [])
  pub floats : map (λ (last : List ℕ). line_of w settings_kinds (119 ∷ one ++ (one ++ (zero ++ last))))
      ((9 ∷ 51 ∷ 102 ∷ 56 ∷ 48 ∷ 48 ∷ 48 ∷ 48 ∷ 48 ∷ []) ∷ (9 ∷ 48 ∷ 48 ∷ 48 ∷ 48 ∷ 48 ∷ 48 ∷ 48 ∷ []) ∷ (zero ++ (48 ∷ [])) ∷ (zero ++ (9 ∷ [])) ∷ [] ∷ [])
      ≡ None ∷ None ∷ None ∷ None ∷ None ∷ []
  -- 0, 7, 10, 2^64 - 1; 2^64, a zero in front, nothing, a sign
  pub decimals : map (λ (last : List ℕ). line_of r region_kinds (114 ∷ 9 ∷ 48 ∷ 9 ∷ 48 ∷ 9 ∷ last))
      ((48 ∷ []) ∷ (55 ∷ []) ∷ (49 ∷ 48 ∷ []) ∷ (49 ∷ 56 ∷ 52 ∷ 52 ∷ 54 ∷ 55 ∷ 52 ∷ 52 ∷ 48 ∷ 55 ∷ 51 ∷ 55 ∷ 48 ∷ 57 ∷ 53 ∷ 53 ∷ 49 ∷ 54 ∷ 49 ∷ 53 ∷ []) ∷ (49 ∷ 56 ∷ 52 ∷ 52 ∷ 54 ∷ 55 ∷ 52 ∷ 52 ∷ 48 ∷ 55 ∷ 51 ∷ 55 ∷ 48 ∷ 57 ∷ 53 ∷ 53 ∷ 49 ∷ 54 ∷ 49 ∷ 54 ∷ []) ∷ (48 ∷ 55 ∷ []) ∷ [] ∷ (43 ∷ 55 ∷ []) ∷ [])
      ≡ Some (0 ∷ 0 ∷ 0 ∷ []) ∷ Some (0 ∷ 0 ∷ 7 ∷ []) ∷ Some (0 ∷ 0 ∷ 10 ∷ []) ∷ Some (0 ∷ 0 ∷ 18446744073709551615 ∷ []) ∷ None ∷ None ∷ None ∷ None ∷ []

pub examples : Examples
unfolding answer answer_to called bench_check bench_nodes listed shown nodes_text node_text ok_text no_text particle_of read_listing read_from line_taken line_of fields_of field_of fields_text field_text Read.hex_of Read.decimal_of Read.number_of Read.bounded Read.onward Read.digit_of Read.before text_of places_of digits_of glyph_of scattered scatter_hits cleared run hit nodes records node_at changed hit_node hit_by brought dir_to_associated_grid_node precompute_weights eval_all inv_d inverse ne eq neg add sub mul of_int scatter_check checked placed judged first_particle out_of_regions bad_flag not_finite on_axis off_grid out_of_region unlisted particle_at finite good_width good_step bad_region region_ids before misplaced cover Refusals.first_of cell_associated_to_point region_associated_to_point lookup searched left narrowed halved shift_hits particle_hits range_hits region_hits coloured_hits colour_hits gather node_place packed_id packed place sum sum_of sums coords coord coordinates count dim2 region number from_fours colour packed_shifts stencil_of round_away round to_unsigned lt le div of_bits to_bits cell_of to_fours
examples = record { example = refl; alone = refl; refusals = (refl, refl); empty = refl; unended = refl; blank = refl; twice = refl; late = refl; returned = refl; line = refl; floats = refl; decimals = refl }
