-- The definitions on values that can be followed by hand. Assumes nothing.
use Rattle.std.specs.Prelude.{true, false, [], ◌∷◌, map, ◌≡◌, refl}
use Rattle.std.specs.Float.{nan, inf, binary32}
use Rattle.std.specs.Float.Ieee.{neg, lt, le, of_bits, to_bits}
use Rattle.std.proofs.Common.{eq-eqb, ne_eqb}
use Rattle.packing.specs.Ids.{region}
use Rattle.packing.specs.Values.{cells}
use Rattle.numeric.specs.Bits.{none, one, two, four}
use Rattle.laws.specs.Store.{Store, store}
use Rattle.laws.specs.Refusals as Refusals
use Rattle.grid.specs.Answers.{number, first, done, refusal}
use Rattle.grid.specs.Nodes.{node_form, node_at, put_node, empty_node}
use Rattle.grid.specs.Table.{lengths, node_lengths, limits, finite, least_width, greatest_width, good_width, good_step, settings, codes, bad_region, region_ids, before, misplaced, cover}
use Rattle.grid.specs.Clear.{clear_check}
use Rattle.grid.specs.declared.Rule.TheVariants.{Length, Limit, Setting, Code, NotFinite, RegionIds, Cover, OffGrid, OutOfRegion, Unlisted}

-- two nodes: the numbers of the second are 1, 2, 1, 2, 1, 2, 4, its flag 7
abbrev nodes2 : Store
nodes2 = store (none ∷ none ∷ none ∷ none ∷ none ∷ none ∷ none ∷ one ∷ two ∷ one ∷ two ∷ one ∷ two ∷ four ∷ []) (0 ∷ 7 ∷ [])

pub record Values : Type 0 where
  -- the table's rows, in its order
  pub numbers : map number (Length ∷ Limit ∷ Setting ∷ Code ∷ NotFinite ∷ RegionIds ∷ Cover ∷ OffGrid ∷ OutOfRegion ∷ Unlisted ∷ []) ≡ 1 ∷ 2 ∷ 3 ∷ 4 ∷ 5 ∷ 6 ∷ 7 ∷ 8 ∷ 9 ∷ 10 ∷ []
  -- the first refusal of a list
  pub order : first (done ∷ refusal Code 7 ∷ refusal NotFinite 0 ∷ []) ≡ refusal Code 7
  -- two regions have 32 nodes of 7 floats and a word
  pub sizes : (lengths (node_lengths 2 224 32) ≡ done) × (lengths (node_lengths 2 224 31) ≡ refusal Length 0) × (lengths (node_lengths 2 223 32) ≡ refusal Length 0)
  pub counts : (limits 512 65536 16 ≡ done) × (limits 513 0 0 ≡ refusal Limit 0) × (limits 0 65537 0 ≡ refusal Limit 0) × (limits 0 0 17 ≡ refusal Limit 0)
  -- 2^-20 and 2^20 are widths, the f32 beyond them, 0, NaN and infinity are none
  pub widths : map good_width (least_width ∷ one ∷ greatest_width ∷ []) ≡ true ∷ true ∷ true ∷ []
  pub no_widths : map good_width (of_bits binary32 0x357fffff ∷ of_bits binary32 0x49800001 ∷ none ∷ neg one ∷ nan ∷ inf false ∷ []) ≡ false ∷ false ∷ false ∷ false ∷ false ∷ false ∷ []
  -- the least f32 is a length, 0, -1, NaN and infinity are none
  pub steps : map good_step (of_bits binary32 1 ∷ none ∷ neg one ∷ nan ∷ inf false ∷ []) ≡ true ∷ false ∷ false ∷ false ∷ false ∷ []
  -- one bad setting is enough
  pub own : (settings (true ∷ true ∷ []) ≡ done) × (settings (true ∷ false ∷ []) ≡ refusal Setting 0) × (codes (false ∷ true ∷ []) ≡ refusal Code 0)
  -- no region; one; one with low bits; a pair that does not ascend, at the later one
  pub ids : (region_ids [] ≡ done) × (region_ids (12288 ∷ []) ≡ done) × (region_ids (640 ∷ []) ≡ refusal RegionIds 0) × (region_ids (12288 ∷ 12288 ∷ []) ≡ refusal RegionIds 1)
  -- particles 0 and 1, none, and 2
  pub covered : cover 3 (0 ∷ 2 ∷ 2 ∷ 0 ∷ 2 ∷ 1 ∷ []) 3 ≡ done
  -- an empty region out of place; a count that passes the last particle; a particle left over; no region
  pub uncovered : (cover 3 (0 ∷ 2 ∷ 1 ∷ 0 ∷ 2 ∷ 1 ∷ []) 3 ≡ refusal Cover 1) × (cover 2 (0 ∷ 2 ∷ 2 ∷ 2 ∷ []) 3 ≡ refusal Cover 1)
      × (cover 2 (0 ∷ 1 ∷ 1 ∷ 1 ∷ []) 3 ≡ refusal Cover 2) × (cover 0 [] 1 ≡ refusal Cover 0) × (cover 0 [] 0 ≡ done)
  -- counts whose sum is more than 64 bits hold do not come round to 1
  pub unwrapped : cover 2 (0 ∷ 1 ∷ 1 ∷ 18446744073709551615 ∷ []) 1 ≡ refusal Cover 1
  pub node : map (to_bits binary32) (node_form.floats_of (node_at nodes2 1)) ≡ map (to_bits binary32) (one ∷ two ∷ one ∷ two ∷ one ∷ two ∷ four ∷ [])
  pub flag : node_form.words_of (node_at nodes2 1) ≡ 7 ∷ []
  -- an empty node in the second place: all its numbers are +0, its flag off, and the first stays
  pub emptied : (map (to_bits binary32) (put_node nodes2 1 empty_node).floats ≡ 0 ∷ 0 ∷ 0 ∷ 0 ∷ 0 ∷ 0 ∷ 0 ∷ 0 ∷ 0 ∷ 0 ∷ 0 ∷ 0 ∷ 0 ∷ 0 ∷ []) × ((put_node nodes2 1 empty_node).words ≡ 0 ∷ 0 ∷ [])
  -- clearing nothing; a count without its slices, before the limit; and the limit is not looked at before the lengths
  pub clearings : (clear_check 0 [] 0 0 ≡ done) × (clear_check 1 [] 0 0 ≡ refusal Length 0) × (clear_check 600 [] 0 0 ≡ refusal Length 0)
      × (clear_check 1 (640 ∷ []) 112 16 ≡ refusal RegionIds 0)

pub values : Values
unfolding node_at put_node region_ids bad_region before misplaced cover good_width good_step finite clear_check Refusals.first_of lt le neg of_bits to_bits
values =
    record {
      numbers = refl;
      order = refl;
      sizes = (refl, refl, refl);
      counts = (refl, refl, refl, refl);
      widths = refl;
      no_widths = refl;
      steps = refl;
      own = (refl, refl, refl);
      ids = (
        refl,
        rw (eq-eqb (region 12288) 12288 cells.2.whole),
        rw (ne_eqb (region 640) 640 cells.1),
        rw (eq-eqb (region 12288) 12288 cells.2.whole),
      );
      covered = refl;
      uncovered = (refl, refl, refl, refl, refl);
      unwrapped = refl;
      node = refl;
      flag = refl;
      emptied = (refl, refl);
      clearings = (refl, refl, refl, rw (ne_eqb (region 640) 640 cells.1));
    }
