-- An input that the calls accept, by computing their definitions: three regions, of which the first and the last have one colour, and a particle in each; the first
-- particle stands at its region's edge, so that it and the second hit a common node. Then the first half of a gather, for two particles of one region. Computing goes through
-- packing's definitions. Assumes nothing.
use Rattle.grid.specs.Answers.{done, refusal}
use Rattle.std.specs.Prelude.{List, [], ◌∷◌, ◌++◌, map, ◌≡◌, refl, Bool, true, false, not, ℕ, zero, suc, eqb, Float, length}
use Rattle.std.specs.Float.{binary32}
use Rattle.std.specs.Float.Ieee.{neg, lt, le, ne, eq, round, to_unsigned, add, sub, mul, div, of_bits, to_bits, of_int}
use Rattle.packing.specs.Mask.{coord, place, count, coords, packed, sums, sum_of}
use Rattle.packing.specs.Ids.{dim2, packed_id, sum, region, number, from_fours, to_fours, cell_of, colour, packed_shifts, stencil_of}
use Rattle.numeric.specs.Bits.{none, one, two, four}
use Rattle.numeric.specs.Kernel.{inv_d, eval_all, precompute_weights}
use Rattle.numeric.specs.Round.{round_away}
use Rattle.numeric.specs.Scalar.{inverse}
use Rattle.laws.specs.Store.{Store, store, records}
use Rattle.laws.specs.Hits.{only, hit, run, gather, changes}
use Rattle.laws.specs.Refusals as Refusals
use Rattle.cells.specs.Cells.{cell_associated_to_point, region_associated_to_point}
use Rattle.cells.specs.Stencil.{dir_to_associated_grid_node}
use Rattle.cells.specs.Lookup.{halved, narrowed, left, searched, lookup}
use Rattle.grid.specs.Nodes.{node_at, nodes}
use Rattle.grid.specs.Clear.{cleared}
use Rattle.grid.specs.Table.{all, finite, flags, numbers, good_width, good_step, bad_region, region_ids, before, misplaced, cover}
use Rattle.grid.specs.declared.Rule.TheVariants.{Length, Setting, Code}
use Rattle.particles.specs.Particles as Particles
use Rattle.particles.specs.Places.{node_place}
use Rattle.particles.specs.Table.{bad_flag, not_finite, on_axis, off_grid, out_of_region, unlisted, judged, first_particle, out_of_regions, placed, checked}
use Rattle.scatter.specs.Scatter.{shift_hits, particle_hits, range_hits, region_hits, coloured_hits, colour_hits, scatter_hits, scattered, mass_scattered, scatter_check, place_check, stencil_id, node_id}
use Rattle.scatter.specs.Hit.{brought, hit_by, hit_node, changed, weighed_node, weighed}
use Rattle.update.specs.Boundary.{handled, collided}
use Rattle.update.specs.Update.{locked_node, after_colliders, updated_node, region_updates, updates, updated}
use Rattle.gather.specs.Transfer.{taken_from, moved, advanced}
use Rattle.fluids.specs.Fluids as Fluids
use Rattle.fluids.specs.Fluids.{with_volume, volumes, particles_after, nodes_after, fluids_check}
use Rattle.gather.specs.Gather.{over_cells, node_of_cell, taken, first_change, first_half, first_check}
use Rattle.solver.specs.Order.{repeated, out_of_turn, turns, order_check}
use Rattle.solver.specs.Step.{records_check, step_check, stepped}

abbrev many : {A : Type 0} → ℕ → A → List A
many zero x = []
many (suc n) x = x ∷ many n x

-- h = 1: a particle at (x, 1) that has mass 1 and nothing else
abbrev at : Float → List Float
at x = x ∷ one ∷ many 10 none ++ (one ∷ many 13 none)

-- at (4, 1), (5, 1) and (9, 1), so with first cells (3, 0), (4, 0) and (8, 0)
abbrev particles : Store
particles = store (at four ++ (at (of_bits binary32 0x40a00000) ++ at (of_bits binary32 0x41100000))) (0 ∷ 0 ∷ 0 ∷ 0 ∷ 0 ∷ 0 ∷ 0 ∷ 0 ∷ 0 ∷ 0 ∷ 0 ∷ 0 ∷ [])

-- the regions of the cells (0, 0), (4, 0) and (8, 0)
abbrev ids : List ℕ
ids = 0 ∷ 4096 ∷ 16384 ∷ []

abbrev ranges : List ℕ
ranges = 0 ∷ 1 ∷ 1 ∷ 1 ∷ 2 ∷ 1 ∷ []

abbrev still : List Float
still = none ∷ none ∷ []

-- one collider, on which every cell projects outside at (0, 0)
abbrev frictions : List Float
frictions = one ∷ []

abbrev projections : Store
projections = store (many 96 none) (many 48 0)

-- two particles of region 0, each at (1, 1) with mass 1, phase 1, factor 1, threshold 35, the rest 0
abbrev twice : {A : Type 0} → List A → List A
twice xs = xs ++ xs

abbrev pair : Store
pair = store (twice (one ∷ one ∷ many 10 none ++ (one ∷ none ∷ one ∷ one ∷ many 5 none ++ (of_bits binary32 0x420c0000 ∷ many 4 none)))) (many 8 0)

-- a node with a velocity along x, a psi momentum and a psi mass
abbrev held : Float → Float → Float → List Float
held u momentum mass = none ∷ none ∷ none ∷ u ∷ none ∷ momentum ∷ mass ∷ []

-- region 0: 64 at (0, 0) and (2, 0), psi momentum 64 and psi mass 1 at (1, 1), -(2 ^ 30) at (0, 2), 2 ^ 30 at (2, 2)
abbrev moving : Store
moving =
    let u = of_bits binary32 0x42800000 in
    let most = of_bits binary32 0x4e800000 in
    store
    (held u none none ++ (many 7 none ++ (held u none none ++ (many 14 none ++ (held none u one ++ (many 14 none ++ (held (neg most) none none ++ (many 7 none ++ (held most none none ++ many 35 none)))))))))
    (many 16 0)

-- two particles at (1, 1), each with mass 64 and V0 2, the second a fluid
abbrev mixed : Store
mixed = store (twice (one ∷ one ∷ many 10 none ++ (of_bits binary32 0x42800000 ∷ two ∷ many 12 none))) (many 6 0 ++ (1 ∷ 0 ∷ []))

-- region 0: mass 5304 at (0, 0), its other numbers 1 and its flag word 7
abbrev standing : Store
standing = store (of_bits binary32 0x45a5c000 ∷ many 6 one ++ many 105 none) (7 ∷ many 15 0)

-- whether no particle's stencil has the cell c of the region at r
abbrev missed : ℕ → ℕ → Bool
missed r c = all (λ (p : ℕ). all (λ (k : ℕ). not (eqb (stencil_id one particles p k) (node_id ids r c))) (0 ∷ 1 ∷ 2 ∷ 3 ∷ 4 ∷ 5 ∷ 6 ∷ 7 ∷ 8 ∷ [])) (0 ∷ 1 ∷ 2 ∷ [])

pub record Values : Type 0 where
  -- the first and the last region have one colour
  pub colours : map (colour dim2) ids ≡ 0 ∷ 1 ∷ 0 ∷ []
  -- full scatter accepts it, and so does one region's, of each place; of none beyond
  pub accepted : scatter_check done one one still 3 ids ranges 3 particles 336 48 ≡ done
  pub regions : map (λ (place : ℕ). scatter_check (place_check place 3) one one still 3 ids ranges 3 particles 336 48) (0 ∷ 1 ∷ 2 ∷ 3 ∷ []) ≡ done ∷ done ∷ done ∷ refusal Code 0 ∷ []
  -- and both orders in which colours come in turn; not one that goes back to a colour, nor a place twice, nor none, nor a place too few
  pub orders : map (λ (order : List ℕ). order_check order one one still 3 ids ranges 3 particles 336 48) ((0 ∷ 2 ∷ 1 ∷ []) ∷ (2 ∷ 0 ∷ 1 ∷ []) ∷ (0 ∷ 1 ∷ 2 ∷ []) ∷ (0 ∷ 0 ∷ 1 ∷ []) ∷ (3 ∷ 0 ∷ 1 ∷ []) ∷ (0 ∷ 2 ∷ []) ∷ [])
      ≡ done ∷ done ∷ refusal Code 2 ∷ refusal Code 1 ∷ refusal Code 0 ∷ refusal Length 0 ∷ []
  -- the node of the cell (4, 0), at place 16, is hit by a region of colour 0 and by one of colour 1
  pub shared : map (λ (c : ℕ). length (only 16 (colour_hits one (changed one one still) ids ranges particles c))) (0 ∷ 1 ∷ 2 ∷ 3 ∷ []) ≡ 1 ∷ 1 ∷ 0 ∷ 0 ∷ []
  -- clear, scatter and update in turn accept it too, with friction and no lock; not with a lock of a third axis, nor a friction too few
  pub steps : map (λ (l : ℕ). step_check one one still 2 l 3 ids ranges 3 particles 1 frictions projections 336 48) (0 ∷ 4 ∷ []) ≡ done ∷ refusal Code 0 ∷ []
  pub short : step_check one one still 2 0 3 ids ranges 3 particles 1 [] projections 336 48 ≡ refusal Length 0
  -- the cell (4, 0) is reached, the last of its region and the last of all are not
  pub reached : missed 1 0 ≡ false
  pub unreached : (missed 1 15 ≡ true) × (missed 2 15 ≡ true)
  -- from nodes of ones they leave the one the mass 6/64 of the first particle and 1/64 of the second, and the other none
  pub masses : map (λ (k : ℕ). (node_at (stepped one one still 0 0 3 ids ranges 3 particles 1 frictions projections (store (many 336 one) (many 48 1))) k).mass) (16 ∷ 31 ∷ [])
      ≡ of_bits binary32 0x3de00000 ∷ none ∷ []
  -- the first half is accepted with modified eigenerosion off and on, and not with 2
  pub gathers : map (λ (modified : ℕ). first_check one one modified 1 (0 ∷ []) (0 ∷ 2 ∷ []) 2 pair 112 16) (0 ∷ 1 ∷ 2 ∷ []) ≡ done ∷ done ∷ refusal Code 0 ∷ []
  -- nodes in stencil order, so that 2 ^ 24 + 1 - 2 ^ 24 + 1 is 1 along x; x = (2, 1), v = (1, 0), G = (2 ^ 27 -8, 0 0), and p = 36 is above 35: with it on, no phase is left
  pub gathered : map (λ (modified : ℕ). map (to_bits binary32) (first_half one one modified (0 ∷ []) moving 2 pair).floats) (1 ∷ 0 ∷ [])
      ≡ map (λ (phase : ℕ). twice (0x40000000 ∷ 0x3f800000 ∷ 0x3f800000 ∷ 0 ∷ 0x4d000000 ∷ 0xc1000000 ∷ many 6 0 ++ (0x3f800000 ∷ 0 ∷ phase ∷ 0x3f800000 ∷ many 5 0 ++ (0x420c0000 ∷ many 4 0)))) (0 ∷ 0x3f800000 ∷ [])
  -- fluids' volumes are accepted with h = 1, and not with 0
  pub recomputes : map (λ (h : Float). fluids_check h 1 (0 ∷ []) (0 ∷ 2 ∷ []) 2 mixed 112 16) (one ∷ none ∷ []) ≡ done ∷ refusal Setting 0 ∷ []
  -- both masses are on the nodes that are gathered from, beside what stood there: 5304/64 + 128·(38/64)² = 128, so the fluid's F00 is (64/128)/2; the solid's stays
  pub recomputed : map (to_bits binary32) (particles_after one (0 ∷ []) (0 ∷ 2 ∷ []) 2 mixed standing).floats
      ≡ 0x3f800000 ∷ 0x3f800000 ∷ many 10 0 ++ (0x42800000 ∷ 0x40000000 ∷ many 12 0 ++ (0x3f800000 ∷ 0x3f800000 ∷ many 10 0 ++ (0x42800000 ∷ 0x40000000 ∷ many 3 0 ++ (0x3e800000 ∷ many 8 0))))
  -- and of the nodes the mass is 0, and all else as it was
  pub emptied : (map (to_bits binary32) (nodes_after one (0 ∷ []) (0 ∷ 2 ∷ []) 2 mixed standing).floats ≡ 0 ∷ many 6 0x3f800000 ++ many 105 0) × ((nodes_after one (0 ∷ []) (0 ∷ 2 ∷ []) 2 mixed standing).words ≡ 7 ∷ many 15 0)

pub values : Values
unfolding fluids_check particles_after nodes_after volumes Fluids.emptied Fluids.recomputed with_volume Fluids.gathered mass_scattered weighed weighed_node first_check first_half changes first_change advanced moved taken over_cells node_of_cell node_place taken_from stepped updated updates region_updates updated_node locked_node after_colliders collided handled scattered scatter_hits cleared run hit nodes records node_at changed hit_node hit_by brought dir_to_associated_grid_node precompute_weights eval_all inv_d inverse ne eq neg add sub mul of_int step_check records_check flags numbers scatter_check order_check turns out_of_turn repeated checked placed judged first_particle out_of_regions bad_flag not_finite on_axis off_grid out_of_region unlisted Particles.particle_at Particles.particles finite good_width good_step bad_region region_ids before misplaced cover Refusals.first_of cell_associated_to_point region_associated_to_point lookup searched left narrowed halved shift_hits particle_hits range_hits region_hits coloured_hits colour_hits only gather packed_id packed place sum sum_of sums coords coord count dim2 region number from_fours colour packed_shifts stencil_of round_away round to_unsigned lt le div of_bits to_bits cell_of to_fours
values = record { colours = refl; accepted = refl; regions = refl; orders = refl; shared = refl; steps = refl; short = refl; reached = refl; unreached = (refl, refl); masses = refl; gathers = refl; gathered = refl; recomputes = refl; recomputed = refl; emptied = (refl, refl) }
