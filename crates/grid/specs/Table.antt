-- Document 01, "Numbers a call answers": the conditions of the table that do not look at particles, in its order. A call's check is the first of those that it is given.
-- Definitions, and what is proved of them.
-- Assumes nothing.
use Rattle.std.specs.Prelude.{◌≡◌, Bool, true, false, ◌&&◌, not, List, [], ◌∷◌, ℕ, zero, suc, ◌+◌, ◌*◌, ◌/◌, ◌<◌, ◌≤◌, length, get_or, eqb, leb, ltb, Float}
use Rattle.std.specs.Float.{nan, inf, fin, binary32}
use Rattle.std.specs.Float.Ieee.{le, lt, of_bits}
use Rattle.packing.specs.Ids.{region}
use Rattle.numeric.specs.Bits.{none}
use Rattle.grid.specs.Answers.{refuse, unless, first, first_of, Answer}
use Rattle.grid.specs.Nodes.{floats_per_node, words_per_node, region_cells}
use Rattle.grid.specs.declared.Rule.TheVariants.{Length, Limit, Setting, Code, NotFinite, RegionIds, Cover}

-- every entry of a list has it
abbrev pub all : {A : Type 0} → (A → Bool) → List A → Bool
all f [] = true
all f (x ∷ xs) = f x && all f xs

-- ---- 1: a slice's length does not match its count

-- each length is what the counts ask, which stands beside it
abbrev pub matches : List (ℕ × ℕ) → Bool
matches ps = all (λ (p : ℕ × ℕ). eqb p.0 p.1) ps

abbrev pub lengths : List (ℕ × ℕ) → Answer
lengths ps = refuse (not (matches ps)) Length 0

-- a list of nodes counts 16 for each region
abbrev pub node_lengths : ℕ → ℕ → ℕ → List (ℕ × ℕ)
node_lengths regions nf nw = (nf, regions * (region_cells * floats_per_node)) ∷ (nw, regions * (region_cells * words_per_node)) ∷ []

-- ---- 2: a count over its limit

abbrev pub max_regions : ℕ
max_regions = 512

abbrev pub max_particles : ℕ
max_particles = 65536

abbrev pub max_colliders : ℕ
max_colliders = 16

-- a call that has no colliders has 0 of them
abbrev pub limits : ℕ → ℕ → ℕ → Answer
limits regions particles colliders =
    refuse (not (all (λ (p : ℕ × ℕ). leb p.0 p.1) ((regions, max_regions) ∷ (particles, max_particles) ∷ (colliders, max_colliders) ∷ []))) Limit 0

-- ---- 3: h, dt or a gravity part not finite; h out of range; dt not above 0

unfoldable pub finite : Float → Bool
finite nan = false
finite (inf s) = false
finite (fin s m e) = true

-- h is from 2^-20 to 2^20, and may be these
abbrev pub least_width : Float
least_width = of_bits binary32 0x35800000

abbrev pub greatest_width : Float
greatest_width = of_bits binary32 0x49800000

unfoldable pub good_width : Float → Bool
good_width h = finite h && (le least_width h && le h greatest_width)

unfoldable pub good_step : Float → Bool
good_step dt = finite dt && lt none dt

-- whether each setting that the call is given is good
abbrev pub settings : List Bool → Answer
settings good = refuse (not (all (λ (b : Bool). b) good)) Setting 0

-- ---- 4: of a call's own settings, ahead of records: a code, flag or place out of range

abbrev pub codes : List Bool → Answer
codes good = refuse (not (all (λ (b : Bool). b) good)) Code 0

-- 1 to 3 and a call's own in 4, in this order: whether all lengths match, what the limits say, whether all settings are good, what is found of its own
unfoldable pub called : Bool → Answer → Bool → Answer → Answer
called lengths limited settings own = first (refuse (not lengths) Length 0 ∷ limited ∷ refuse (not settings) Setting 0 ∷ own ∷ [])

-- of words, one a record: the first that is no flag
abbrev pub is_flag : ℕ → Bool
is_flag w = leb w 1

unfoldable pub flags : List ℕ → Answer
flags ws = first_of (λ k. refuse (not (is_flag (get_or ws k 0))) Code k) 0 (length ws)

-- ---- 5: a non-finite number in a record

-- of floats, so many a record: the record of the first that is not finite
unfoldable pub numbers : ℕ → List Float → Answer
numbers each xs = first_of (λ k. refuse (not (finite (get_or xs k nan))) NotFinite (k / each)) 0 (length xs)

-- ---- 6: region ids not strictly ascending, or low 12 bits set

-- of a pair that does not ascend, the later one
abbrev pub ascends : List ℕ → ℕ → Bool
ascends ids zero = true
ascends ids (suc k) = ltb (get_or ids k 0) (get_or ids (suc k) 0)

unfoldable pub bad_region : List ℕ → ℕ → Bool
bad_region ids k = not (eqb (region (get_or ids k 0)) (get_or ids k 0) && ascends ids k)

unfoldable pub region_ids : List ℕ → Answer
region_ids ids = first_of (λ k. refuse (bad_region ids k) RegionIds k) 0 (length ids)

-- what is proved where it refuses nothing
pub record Regions (ids : List ℕ) : Type 0 where
  pub whole : (k : ℕ) → k < length ids → region (get_or ids k 0) ≡ get_or ids k 0
  pub ascending : (i j : ℕ) → i < j → j < length ids → get_or ids i 0 < get_or ids j 0

-- ---- 7: region starts and counts do not cover the particles consecutively

-- a region's start and count
abbrev pub words_per_range : ℕ
words_per_range = 2

abbrev pub start_of : List ℕ → ℕ → ℕ
start_of ranges r = get_or ranges (r * words_per_range) 0

abbrev pub count_of : List ℕ → ℕ → ℕ
count_of ranges r = get_or ranges (r * words_per_range + 1) 0

-- the sum of the counts before a region
unfoldable pub before : List ℕ → ℕ → ℕ
before ranges zero = 0
before ranges (suc r) = before ranges r + count_of ranges r

-- a start that is not that sum, or a count that passes the last particle
unfoldable pub misplaced : List ℕ → ℕ → ℕ → Bool
misplaced ranges particles r = not (eqb (start_of ranges r) (before ranges r) && leb (before ranges r + count_of ranges r) particles)

-- with particles left over, the number of regions
unfoldable pub cover : ℕ → List ℕ → ℕ → Answer
cover regions ranges particles =
    unless (first_of (λ r. refuse (misplaced ranges particles r) Cover r) 0 regions)
    (refuse (not (eqb (before ranges regions) particles)) Cover regions)

-- what is proved where it refuses nothing: each region begins where those before it end, and together they have all particles
pub record Covers (regions : ℕ) (ranges : List ℕ) (particles : ℕ) : Type 0 where
  pub begins : (r : ℕ) → r < regions → start_of ranges r ≡ before ranges r
  pub within : (r : ℕ) → r < regions → start_of ranges r + count_of ranges r ≤ particles
  pub all_taken : before ranges regions ≡ particles
