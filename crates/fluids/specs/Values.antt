-- What fluids' volumes are, what becomes of a node, and what a call is refused for, on values that can be followed by hand; a whole call is among solver's. Assumes nothing.
use Rattle.grid.specs.Answers.{Answer, done, refusal}
use Rattle.std.specs.Prelude.{false, List, [], ◌∷◌, ◌++◌, map, ◌≡◌, refl, ℕ, Float, get_or}
use Rattle.std.proofs.Common.{ap, eq-eqb}
use Rattle.std.specs.Float.{nan, inf}
use Rattle.std.specs.Float.Ieee.{neg, lt, le, add, sub, mul, div, round, of_bits, to_bits, of_int}
use Rattle.packing.specs.Ids.{dim2, region, stencil_of}
use Rattle.packing.specs.Values.{cells, shifts}
use Rattle.numeric.specs.Bits.{◌⊕◌, ◌⊗◌, ◌⊘◌, none, one, two}
use Rattle.numeric.specs.Kernel.{eval_all, precompute_weights}
use Rattle.numeric.specs.Round.{round_away}
use Rattle.laws.specs.Store.{Store, store, records}
use Rattle.laws.specs.Hits.{hit, run, gather, changes}
use Rattle.laws.specs.Refusals as Refusals
use Rattle.cells.specs.Cells.{cell_associated_to_point}
use Rattle.cells.specs.Stencil.{dir_to_associated_grid_node, weight_of}
use Rattle.grid.specs.Nodes.{node_form, nodes}
use Rattle.grid.specs.Table.{finite, least_width, greatest_width, good_width, bad_region, region_ids, before, misplaced, cover}
use Rattle.grid.specs.declared.Rule.TheVariants.{Length, Limit, Setting, Code, NotFinite, Cover}
use Rattle.grid.specs.declared.grid_node.GridNode.{GridNode}
use Rattle.particles.specs.Particles.{particle_form, particle_at, particles}
use Rattle.particles.specs.Table.{bad_flag, not_finite, judged, first_particle, out_of_regions, placed, checked}
use Rattle.scatter.specs.Scatter.{mass_scattered}
use Rattle.gather.specs.Gather.{over_cells, node_of_cell}
use Rattle.gather.specs.Values.{bits, pattern, whole, many, counted, marked, shown}
use Rattle.fluids.specs.Fluids.{gathered, with_volume, recomputed, massless, volumes, emptied, particles_after, nodes_after, fluids_check}

-- ---- one particle

-- the numbers of one with a place, m and V0, the rest 0
abbrev of : Float → Float → Float → Float → List Float
of x y m v0 = x ∷ y ∷ many 10 none ++ (m ∷ v0 ∷ many 12 none)

-- its F00, by h and the gathered mass
abbrev f00 : Float → Float → Float → Float → ℕ
f00 h mass m v0 = bits (with_volume h mass (particle_form.make (of none none m v0) (many 4 0))).deformation_gradient.m00

-- two fluids: at (1, 1), m 2 and V0 1; at (2, 1), m 1 and V0 2
abbrev pair : Store
pair = store (of one one two one ++ of two one one two) (0 ∷ 0 ∷ 1 ∷ 0 ∷ 0 ∷ 0 ∷ 1 ∷ 0 ∷ [])

-- ---- nodes

-- a point, and the masses of the nodes of its stencil
abbrev beside : List Float
beside = pattern 0x3fa00000 ∷ pattern 0x3f400000 ∷ []

abbrev mass_at : List ℕ → Store → ℕ → Float
mass_at ids s k = (node_of_cell ids s (get_or (stencil_of dim2 (cell_associated_to_point dim2 one beside)) k 0)).mass

-- these, each by the weight of its shift
abbrev weighing : List (List ℕ) → List ℕ → Store → Float
weighing ss ids s =
    let w : ℕ → Float = λ k. weight_of (precompute_weights (dir_to_associated_grid_node one beside) one) (get_or ss k []) in
    let m = mass_at ids s in
    none ⊕ w 0 ⊗ m 0 ⊕ w 1 ⊗ m 1 ⊕ w 2 ⊗ m 2 ⊕ w 3 ⊗ m 3 ⊕ w 4 ⊗ m 4 ⊕ w 5 ⊗ m 5 ⊕ w 6 ⊗ m 6 ⊕ w 7 ⊗ m 7 ⊕ w 8 ⊗ m 8

-- a list sixteen times
abbrev twice : List Float → List Float
twice xs = xs ++ xs

abbrev sixteen : List Float → List Float
sixteen xs = twice (twice (twice (twice xs)))

abbrev shown_node : GridNode → List ℕ × List ℕ
shown_node n = (map bits (node_form.floats_of n), node_form.words_of n)

-- ---- calls

-- what a call for two particles of region 12288 answers, with so many floats of nodes
abbrev asked : Float → List ℕ → List Float → List ℕ → ℕ → Answer
asked h ranges floats words nf = fluids_check h 1 (12288 ∷ []) ranges 2 (store floats words) nf 16

-- their numbers and flags without a fault, with a NaN as the last of the first, and with 2 for a flag of the second
abbrev clean : List Float
clean = many 52 one

abbrev nan_of_first : List Float
nan_of_first = many 25 one ++ (nan ∷ many 26 one)

abbrev off : List ℕ
off = many 8 0

abbrev flag_of_second : List ℕ
flag_of_second = many 7 0 ++ (2 ∷ [])

pub record Values : Type 0 where
  -- h = 2, gathered 8, m = 6, V0 = 3: density 2, volume 3, F00 = 1
  pub plain : f00 two (whole 8) (whole 6) (whole 3) ≡ 0x3f800000
  -- h = 5, gathered 9, m = 9, V0 = 11: 9/25, then 9 by that, then by 11, each rounded, is one below the f32 nearest to 25/11
  pub rounded : f00 (whole 5) (whole 9) (whole 9) (whole 11) ≡ 0x4011745c
  -- the volume comes before V0: 2 ^ 100 by 2 ^ -40 passes the greatest f32, whatever V0 = 2 ^ 100 would make of it; and 2 ^ -100 by 2 ^ 60 is 0, whatever V0 = 2 ^ -40 would
  pub greatest : f00 one (pattern 0x2b800000) (pattern 0x71800000) (pattern 0x71800000) ≡ 0x7f800000
  pub least : f00 one (pattern 0x5d800000) (pattern 0x0d800000) (pattern 0x2b800000) ≡ 0
  -- the density before the volume: h = 2 ^ 20, 2 ^ -126 by 2 ^ 40 is 0, so the volume of m = 2 ^ -100 is infinite; h = 2 ^ -20, 2 ^ 100 by 2 ^ -40 is infinite, so that of m = 2 ^ 100 is 0
  pub thin : f00 (pattern 0x49800000) (pattern 0x00800000) (pattern 0x0d800000) one ≡ 0x7f800000
  pub dense : f00 (pattern 0x35800000) (pattern 0x71800000) (pattern 0x71800000) one ≡ 0
  -- nothing gathered: m of 1, -1, 0; and of 1 with -0 gathered
  pub alone : map (λ (m : Float). f00 one none m one) (one ∷ neg one ∷ none ∷ []) ≡ 0x7f800000 ∷ 0xff800000 ∷ 0x7fc00000 ∷ []
  pub alone_below : f00 one (neg none) one one ≡ 0xff800000
  -- V0 of 0, -0, -1; and 0 of a particle without mass
  pub unsized : map (f00 one one one) (none ∷ neg none ∷ neg one ∷ []) ≡ 0x7f800000 ∷ 0xff800000 ∷ 0xbf800000 ∷ []
  pub nowhere : f00 one one none none ≡ 0x7fc00000
  -- m of -6 among 8, among -8; m of -0
  pub negative : (f00 two (whole 8) (neg (whole 6)) (whole 3) ≡ 0xbf800000) × (f00 two (neg (whole 8)) (neg (whole 6)) (whole 3) ≡ 0x3f800000) × (f00 one one (neg none) one ≡ 0x80000000)
  -- each number in its field. Gathered is m, so F00 = 1/V0 = 1/(1 + 13·2 ^ -23), rounded, and all else is as it was
  pub fields : shown (with_volume one (pattern 0x3f80000c) (marked (1 ∷ 0 ∷ 1 ∷ 1 ∷ []))) ≡ (map bits (counted 17 0x3f800000) ++ (0x3f7fffe6 ∷ map bits (counted 8 0x3f800012)), 1 ∷ 0 ∷ 1 ∷ 1 ∷ [])
  -- a solid stays, whatever the nodes hold, also a static or failed one
  pub solid : (h : Float) (ids : List ℕ) (s : Store) → map (λ (words : List ℕ). shown (recomputed h ids s (marked words))) ((0 ∷ 0 ∷ 0 ∷ 0 ∷ []) ∷ (1 ∷ 1 ∷ 0 ∷ 1 ∷ []) ∷ [])
      ≡ (map bits (counted 26 0x3f800000), 0 ∷ 0 ∷ 0 ∷ 0 ∷ []) ∷ (map bits (counted 26 0x3f800000), 1 ∷ 1 ∷ 0 ∷ 1 ∷ []) ∷ []
  -- a fluid does not, whatever its other flags are; its mass is gathered at its own place
  pub fluid : (h : Float) (ids : List ℕ) (s : Store) → map (λ (words : List ℕ). recomputed h ids s (marked words)) ((0 ∷ 0 ∷ 1 ∷ 0 ∷ []) ∷ (1 ∷ 1 ∷ 1 ∷ 1 ∷ []) ∷ [])
      ≡ map (λ (words : List ℕ). with_volume h (gathered h ids s (counted 2 0x3f800000)) (marked words)) ((0 ∷ 0 ∷ 1 ∷ 0 ∷ []) ∷ (1 ∷ 1 ∷ 1 ∷ 1 ∷ []) ∷ [])
  -- of a node the mass alone is gone: all else, and the bits of its flag, are as they were
  pub node : shown_node (massless (node_form.make (counted 7 0x3f800000) (7 ∷ []))) ≡ (0 ∷ map bits (counted 6 0x3f800001), 7 ∷ [])
  -- whatever the mass was
  pub gone : map (λ (mass : Float). bits (massless (node_form.make (mass ∷ counted 6 0x3f800001) (0 ∷ []))).mass) (none ∷ neg none ∷ neg one ∷ nan ∷ inf false ∷ []) ≡ many 5 0
  -- the 16 nodes of a region, and not the next
  pub sixteen_nodes : let s = emptied 1 (store (many 119 one) (many 17 7)) in (map bits s.floats ≡ map bits (sixteen (none ∷ many 6 one) ++ many 7 one)) × (s.words ≡ many 17 7)
  -- mass gathered at (5/4, 3/4), h = 1: from +0, each node of the stencil in order by its own weight; along x these are 1/32, 11/16, 9/32, along y the same backwards
  pub weights : (ids : List ℕ) (s : Store) → let m = mass_at ids s in gathered one ids s beside
      ≡ none ⊕ pattern 0x3c100000 ⊗ m 0 ⊕ pattern 0x3da20000 ⊗ m 1 ⊕ pattern 0x3e460000 ⊗ m 2 ⊕ pattern 0x3a800000 ⊗ m 3 ⊕ pattern 0x3c100000 ⊗ m 4 ⊕ pattern 0x3cb00000 ⊗ m 5
      ⊕ pattern 0x3cb00000 ⊗ m 6 ⊕ pattern 0x3e460000 ⊗ m 7 ⊕ pattern 0x3ef20000 ⊗ m 8
  -- each fluid by the mass at its own place, with its own m and V0; the mass is that of the nodes as they stand and of all particles
  pub each : (ids ranges : List ℕ) (s : Store) → let t = mass_scattered one ids ranges pair s in particles_after one ids ranges 2 pair s
      ≡ store (
      one ∷ one ∷ many 10 none ++ (two ∷ one ∷ many 3 none ++ ((two ⊘ (gathered one ids t (one ∷ one ∷ []) ⊘ one)) ⊘ one ∷ many 8 none))
      ++ (two ∷ one ∷ many 10 none ++ (one ∷ two ∷ many 3 none ++ ((one ⊘ (gathered one ids t (two ∷ one ∷ []) ⊘ one)) ⊘ two ∷ many 8 none)))
      ) (0 ∷ 0 ∷ 1 ∷ 0 ∷ 0 ∷ 0 ∷ 1 ∷ 0 ∷ [])
  -- and then the nodes of the listed regions lose theirs
  pub after : (ranges : List ℕ) (q s : Store) → nodes_after one (0 ∷ 4096 ∷ []) ranges 2 q s ≡ emptied 2 (mass_scattered one (0 ∷ 4096 ∷ []) ranges q s)
  -- refusals: h out of range is 3, and its ends are not; no dt is asked
  pub widths : map (λ (h : Float). fluids_check h 0 [] [] 0 (store [] []) 0 0) (least_width ∷ greatest_width ∷ pattern 0x357fffff ∷ pattern 0x49800001 ∷ nan ∷ inf false ∷ []) ≡ done ∷ done ∷ many 4 (refusal Setting 0)
  -- a length ahead of h, and h ahead of a flag; a flag of a later particle ahead of a NaN of an earlier, that ahead of the starts and counts
  pub length_first : asked none (0 ∷ 2 ∷ []) clean flag_of_second 111 ≡ refusal Length 0
  pub width_first : asked none (0 ∷ 2 ∷ []) clean flag_of_second 112 ≡ refusal Setting 0
  pub flag_first : asked one (0 ∷ 1 ∷ []) nan_of_first flag_of_second 112 ≡ refusal Code 1
  pub number_first : asked one (0 ∷ 1 ∷ []) nan_of_first off 112 ≡ refusal NotFinite 0
  pub left_over : asked one (0 ∷ 1 ∷ []) clean off 112 ≡ refusal Cover 1
  -- a count over its limit behind a length and ahead of h
  pub limit_first : (fluids_check none 513 (many 513 0) (many 1026 0) 0 (store [] []) 57456 8208 ≡ refusal Limit 0) × (fluids_check none 513 (many 513 0) (many 1026 0) 0 (store [] []) 57456 8207 ≡ refusal Length 0)

pub values : Values
unfolding gathered with_volume recomputed volumes emptied particles_after nodes_after fluids_check over_cells changes hit run gather Refusals.first_of records nodes particles particle_at eval_all precompute_weights round_away dir_to_associated_grid_node finite good_width bad_region region_ids before misplaced cover bad_flag not_finite judged first_particle out_of_regions placed checked lt le neg add sub mul div round of_int of_bits to_bits
values =
    record {
      plain = refl;
      rounded = refl;
      greatest = refl;
      least = refl;
      thin = refl;
      dense = refl;
      alone = refl;
      alone_below = refl;
      unsized = refl;
      nowhere = refl;
      negative = (refl, refl, refl);
      fields = refl;
      solid = λ h ids s. refl;
      fluid = λ h ids s. refl;
      node = refl;
      gone = refl;
      sixteen_nodes = (refl, refl);
      weights = λ ids s. ap (λ (ss : List (List ℕ)). weighing ss ids s) shifts;
      each = λ ids ranges s. refl;
      after = λ ranges q s. refl;
      widths = refl;
      length_first = refl;
      width_first = refl;
      flag_first = refl;
      number_first = refl;
      left_over = rw (eq-eqb (region 12288) 12288 cells.2.whole);
      limit_first = (refl, refl);
    }
