-- Document 01, "Numbers a call answers": the conditions of the table that look at particles, in its order, and the check of the calls whose particles stand in listed
-- regions. Definitions, and what is proved of them.
-- Assumes nothing.
use Rattle.std.specs.Prelude.{◌≡◌, Bool, true, false, not, List, [], ◌∷◌, ◌++◌, ◌⊎◌, ◌↔◌, ℕ, ◌+◌, ◌*◌, ◌≤◌, ◌<◌, length, get_or, eqb, Float, None, Option, Some}
use Rattle.std.specs.Float.{nan}
use Rattle.std.specs.Float.Ieee.{lt}
use Rattle.laws.specs.Store.{Store, store, Holds}
use Rattle.packing.specs.Ids.{dim2, region, stencil_of}
use Rattle.numeric.specs.Bits.{one}
use Rattle.cells.specs.Cells.{nearest, greatest_coordinate, in_range, cell_associated_to_point, region_associated_to_point}
use Rattle.cells.specs.Lookup.{lookup}
use Rattle.grid.specs.Answers.{refuse, first, first_of, Answer}
use Rattle.grid.specs.Nodes.{node_form, region_cells}
use Rattle.grid.specs.Table.{all, lengths, node_lengths, limits, finite, good_width, settings, is_flag, region_ids, Regions, words_per_range, start_of, count_of, cover, Covers}
use Rattle.grid.specs.declared.Rule.{Rule}
use Rattle.grid.specs.declared.Rule.TheVariants.{Length, Limit, Setting, Code, NotFinite, RegionIds, Cover, OffGrid, OutOfRegion, Unlisted}
use Rattle.particles.specs.Particles.{floats_per_particle, words_per_particle, particle_form, particle_at, position_of}
use Rattle.particles.specs.declared.particle.Particle.{Particle}

-- 1: each slice has its own records, all of one size
abbrev pub particle_lengths : ℕ → ℕ → ℕ → List (ℕ × ℕ)
particle_lengths particles pf pw = (pf, particles * floats_per_particle) ∷ (pw, particles * words_per_particle) ∷ []

-- ---- 4: a flag out of range

unfoldable pub bad_flag : Particle → Bool
bad_flag q = not (all is_flag (particle_form.words_of q))

-- ---- 5: a non-finite number

unfoldable pub not_finite : Particle → Bool
not_finite q = not (all finite (particle_form.floats_of q))

-- ---- 8: r below 1 or above 65,535 on an axis

unfoldable pub on_axis : Float → Float → Bool
on_axis h x = in_range (nearest h x)

unfoldable pub off_grid : Float → Particle → Bool
off_grid h q = not (all (on_axis h) (position_of q))

-- ---- 9: a particle's cell is not in its region

unfoldable pub out_of_region : Float → ℕ → Particle → Bool
out_of_region h r q = not (eqb (region_associated_to_point dim2 h (position_of q)) r)

-- ---- 10: a particle's stencil region is not listed

abbrev pub is_at : Option ℕ → Bool
is_at (Some k) = true
is_at None = false

abbrev pub listed : List ℕ → ℕ → Bool
listed ids i = is_at (lookup ids (region i))

unfoldable pub unlisted : Float → List ℕ → Particle → Bool
unlisted h ids q = not (all (listed ids) (stencil_of dim2 (cell_associated_to_point dim2 h (position_of q))))

-- ---- the first particle that a rule refuses

-- whether a rule refuses a particle of the region r
unfoldable pub judged : Rule → Float → List ℕ → ℕ → Particle → Bool
judged Length h ids r q = false
judged Limit h ids r q = false
judged Setting h ids r q = false
judged Code h ids r q = bad_flag q
judged NotFinite h ids r q = not_finite q
judged RegionIds h ids r q = false
judged Cover h ids r q = false
judged OffGrid h ids r q = off_grid h q
judged OutOfRegion h ids r q = out_of_region h r q
judged Unlisted h ids r q = unlisted h ids q

-- of the n particles from p on, with its index
unfoldable pub first_particle : Rule → Float → List ℕ → ℕ → Store → ℕ → ℕ → Answer
first_particle rule h ids r s p n = first_of (λ k. refuse (judged rule h ids r (particle_at s k)) rule k) p n

-- of each region's particles, region by region
unfoldable pub out_of_regions : Float → List ℕ → List ℕ → Store → Answer
out_of_regions h ids ranges s = first_of (λ r. first_particle OutOfRegion h ids (get_or ids r 0) s (start_of ranges r) (count_of ranges r)) 0 (length ids)

-- ---- a call's particles, in the order of the table

-- 6 to 10: where the regions and the particles stand
unfoldable pub placed : Float → List ℕ → List ℕ → Store → ℕ → Answer
placed h ids ranges s n =
    first (
    region_ids ids
    ∷ cover (length ids) ranges n
    ∷ first_particle OffGrid h ids 0 s 0 n
    ∷ out_of_regions h ids ranges s
    ∷ first_particle Unlisted h ids 0 s 0 n
    ∷ []
    )

-- 4 to 10
unfoldable pub checked : Float → List ℕ → List ℕ → Store → ℕ → Answer
checked h ids ranges s n =
    first (
    first_particle Code h ids 0 s 0 n
    ∷ first_particle NotFinite h ids 0 s 0 n
    ∷ placed h ids ranges s n
    ∷ []
    )

-- ---- a stage: a call that is given particles in listed regions, and the nodes of these

-- its lengths in 1, each beside what the counts ask
abbrev pub stage_lengths : ℕ → List ℕ → List ℕ → ℕ → Store → ℕ → ℕ → List (ℕ × ℕ)
stage_lengths regions ids ranges count particles nf nw =
    (length ids, regions) ∷ (length ranges, regions * words_per_range) ∷ particle_lengths count (length particles.floats) (length particles.words) ++ node_lengths regions nf nw

-- 1 to 10; of the nodes, only how many floats and words there are. `good` says of each of its settings in 3 whether it is good, `own` is what is found of its own in 4, ahead of
-- records.
abbrev pub stage_check : List Bool → Answer → Float → ℕ → List ℕ → List ℕ → ℕ → Store → ℕ → ℕ → Answer
stage_check good own h regions ids ranges count particles nf nw =
    first (
    lengths (stage_lengths regions ids ranges count particles nf nw)
    ∷ limits regions count 0
    ∷ settings good
    ∷ own
    ∷ checked h ids ranges particles count
    ∷ []
    )

-- a particle is on the grid
abbrev pub OnGrid : Float → Particle → Type 0
OnGrid h q = all (on_axis h) (position_of q) ≡ true

-- every region of a particle's stencil is listed
abbrev pub Reached : Float → List ℕ → Particle → Type 0
Reached h ids q = all (listed ids) (stencil_of dim2 (cell_associated_to_point dim2 h (position_of q))) ≡ true

-- ---- what is proved where nothing is refused: what a stage may build on

pub record Accepted (h : Float) (ids ranges : List ℕ) (s : Store) (n : ℕ) : Type 0 where
  pub flags : (p : ℕ) → p < n → all is_flag (particle_form.words_of (particle_at s p)) ≡ true
  pub numbers : (p : ℕ) → p < n → all finite (particle_form.floats_of (particle_at s p)) ≡ true
  pub regions : Regions ids
  pub covers : Covers (length ids) ranges n
  pub on_grid_lem : (p : ℕ) → p < n → OnGrid h (particle_at s p)
  pub in_region : (r : ℕ) → r < length ids → (p : ℕ) → start_of ranges r ≤ p → p < start_of ranges r + count_of ranges r
      → region_associated_to_point dim2 h (position_of (particle_at s p)) ≡ get_or ids r 0
  pub stencils : (p : ℕ) → p < n → Reached h ids (particle_at s p)

pub record Ready (h : Float) (ids ranges : List ℕ) (particles s : Store) : Type 0 where
  pub count : ℕ
  pub ranges_long : length ranges ≡ length ids * words_per_range
  pub particles_held : Holds particle_form particles count
  pub nodes_held : Holds node_form s (length ids * region_cells)
  pub accepted : Accepted h ids ranges particles count

-- ---- as the code goes first: whether no rule refuses a particle of the region r

abbrev pub Passes : Float → List ℕ → ℕ → Particle → Type 0
Passes h ids r q = (rule : Rule) → judged rule h ids r q ≡ false

-- of the n particles from p on
abbrev pub AllPass : Float → List ℕ → ℕ → Store → ℕ → ℕ → Type 0
AllPass h ids r s p n = (k : ℕ) → p ≤ k → k < p + n → Passes h ids r (particle_at s k)

-- ---- what is proved of number 8

-- r is below 1 or above 65,535
abbrev pub Beyond : Float → Float → Type 0
Beyond h x = (lt (nearest h x) one ≡ true) ⊎ (lt greatest_coordinate (nearest h x) ≡ true)

-- on one of the axes
abbrev pub BeyondOne : Float → List Float → Type 0
BeyondOne h [] = ⊥
BeyondOne h (x ∷ xs) = Beyond h x ⊎ BeyondOne h xs

pub record OnAxes : Type 0 where
  -- A finite position over a width that 3 lets through is no NaN, and neither is what it is rounded to.
  pub number : (h x : Float) → good_width h ≡ true → finite x ≡ true → nearest h x ≡ nan → ⊥
  -- So a position is off the grid on an axis exactly where r is below 1 or above 65,535.
  pub off : (h x : Float) → good_width h ≡ true → finite x ≡ true → (on_axis h x ≡ false) ↔ Beyond h x
  -- And a particle that 5 lets through is off the grid exactly where it is so on an axis.
  pub particle : (h : Float) (q : Particle) → good_width h ≡ true → not_finite q ≡ false → (off_grid h q ≡ true) ↔ BeyondOne h (position_of q)

-- ---- what is proved of empty lists: "Empty lists are accepted"

pub record Empty : Type 0 where
  -- A stage of no particles is refused for its lengths, its counts, its settings, its own, and its regions alone.
  pub particles : (good : List Bool) (own : Answer) (h : Float) (regions : ℕ) (ids ranges : List ℕ) (s : Store) (nf nw : ℕ)
      → stage_check good own h regions ids ranges 0 s nf nw
      ≡ first (lengths (stage_lengths regions ids ranges 0 s nf nw) ∷ limits regions 0 0 ∷ settings good ∷ own ∷ region_ids ids ∷ cover (length ids) ranges 0 ∷ [])
  -- One of no regions either is refused for its settings and its own alone.
  pub stage : (good : List Bool) (own : Answer) (h : Float) → stage_check good own h 0 [] [] 0 (store [] []) 0 0 ≡ first (settings good ∷ own ∷ [])
