-- Document 01, "The bench listing": what the program prints for a text: it clears, scatters, prints nodes whose mass is not zero, list order, then y, then x; a refusal prints only
-- `no`, number, index. Definitions only.
use Rattle.std.specs.Prelude.{Bool, true, false, cond, ◌&&◌, List, [], ◌∷◌, ◌++◌, map, ℕ, zero, suc, ◌*◌, ◌/◌, ◌%◌, ◌^◌, min, length, get_or, replicate, leb, Float, Err, Ok}
use Rattle.std.specs.Float.{binary32}
use Rattle.std.specs.Float.Ieee.{ne, of_bits, to_bits}
use Rattle.packing.specs.Ids.{dim2, cell_of}
use Rattle.numeric.specs.Axes.{axes}
use Rattle.numeric.specs.Bits.{none}
use Rattle.laws.specs.Store.{Store, store}
use Rattle.cells.specs.Cells.{read_back}
use Rattle.grid.specs.Answers.{number_of, index_of, refused, Answer, done}
use Rattle.grid.specs.Nodes.{floats_per_node, words_per_node, region_cells, node_at}
use Rattle.grid.specs.Clear.{cleared}
use Rattle.grid.specs.declared.grid_node.GridNode.{GridNode}
use Rattle.particles.specs.Particles.{particle_form}
use Rattle.particles.specs.declared.particle.Particle.{Particle}
use Rattle.scatter.specs.Scatter.{scatter_check, scattered}
use Rattle.listing.specs.Lines.{float, decimal, ended_text}
use Rattle.listing.specs.Listing.{read_listing, Read}
use Rattle.listing.specs.declared.records.Settings.{Settings}
use Rattle.listing.specs.declared.records.Region.{Region}

-- ---- the values of a line as a call takes them

-- a float by its bits, of which there are 32
abbrev pub float_of : ℕ → Float
float_of v = of_bits binary32 (v % 2 ^ 32)

-- the n floats of a line from its k-th value on
abbrev pub floats_of : List ℕ → ℕ → ℕ → List Float
floats_of vs k zero = []
floats_of vs k (suc n) = float_of (get_or vs k 0) ∷ floats_of vs (suc k) n

-- a `w` line: h, dt and gravity
abbrev pub settings_of : List ℕ → Settings
settings_of vs = record { cell_width = float_of (get_or vs 0 0); dt = float_of (get_or vs 1 0); gravity = record { x = float_of (get_or vs 2 0); y = float_of (get_or vs 3 0) } }

-- an `r` line: an id, and a start and a count
abbrev pub region_of : List ℕ → Region
region_of vs = record { id = get_or vs 0 0; start = get_or vs 1 0; count = get_or vs 2 0 }

-- a `p` line: the record's first 17 floats and the failed flag; the rest is 0. A flag above 1 answers 4, whatever it is, so what is kept of it is at most 2.
unfoldable pub particle_of : List ℕ → Particle
particle_of vs = particle_form.make (floats_of vs 0 17 ++ (none ∷ none ∷ none ∷ none ∷ none ∷ none ∷ none ∷ none ∷ none ∷ [])) (min (get_or vs 17 0) 2 ∷ 0 ∷ 0 ∷ 0 ∷ [])

-- ---- what a call is given

abbrev pub ids_of : List (List ℕ) → List ℕ
ids_of [] = []
ids_of (vs ∷ rest) = (region_of vs).id ∷ ids_of rest

abbrev pub ranges_of : List (List ℕ) → List ℕ
ranges_of [] = []
ranges_of (vs ∷ rest) = (region_of vs).start ∷ (region_of vs).count ∷ ranges_of rest

abbrev pub particle_floats_of : List (List ℕ) → List Float
particle_floats_of [] = []
particle_floats_of (vs ∷ rest) = particle_form.floats_of (particle_of vs) ++ particle_floats_of rest

abbrev pub particle_words_of : List (List ℕ) → List ℕ
particle_words_of [] = []
particle_words_of (vs ∷ rest) = particle_form.words_of (particle_of vs) ++ particle_words_of rest

-- the nodes of so many regions
abbrev pub blank : ℕ → Store
blank regions = store (replicate (regions * (region_cells * floats_per_node)) none) (replicate (regions * (region_cells * words_per_node)) 0)

-- ---- the lines that are printed

-- `n`: the cell's unpacked x and y, mass, momentum, velocity
abbrev pub node_head : List ℕ
node_head = 110 ∷ []

abbrev pub node_kinds : List ℕ
node_kinds = decimal ∷ decimal ∷ float ∷ float ∷ float ∷ float ∷ float ∷ []

-- the cell of a place of the nodes: its region in the list, and its number in that, which is x + 4·y; so places in order are list order, then y, then x
abbrev pub cell_at : List ℕ → ℕ → ℕ
cell_at ids k = cell_of dim2 (get_or ids (k / region_cells) 0) (k % region_cells)

abbrev pub node_values : List ℕ → ℕ → GridNode → List ℕ
node_values ids k n = read_back dim2 (cell_at ids k) ++ map (to_bits binary32) (n.mass ∷ n.momentum.x ∷ n.momentum.y ∷ n.velocity.x ∷ n.velocity.y ∷ [])

unfoldable pub node_text : List ℕ → Store → ℕ → List ℕ
node_text ids s k = ended_text node_head node_kinds (node_values ids k (node_at s k))

-- the places below k of nodes whose mass is not zero, in order
abbrev pub keep : Bool → ℕ → List ℕ → List ℕ
keep true k ks = ks ++ (k ∷ [])
keep false k ks = ks

unfoldable pub shown : Store → ℕ → List ℕ
shown s zero = []
shown s (suc k) = keep (ne (node_at s k).mass none) k (shown s k)

-- a line for each
unfoldable pub nodes_text : List ℕ → Store → List ℕ → List ℕ
nodes_text ids s [] = []
nodes_text ids s (k ∷ ks) = node_text ids s k ++ nodes_text ids s ks

-- `ok`: the count of `n` lines
unfoldable pub ok_text : ℕ → List ℕ
ok_text count = ended_text (111 ∷ 107 ∷ []) (decimal ∷ []) (count ∷ [])

-- `no`: number, index
unfoldable pub no_text : ℕ → ℕ → List ℕ
no_text number index = ended_text (110 ∷ 111 ∷ []) (decimal ∷ decimal ∷ []) (number ∷ index ∷ [])

-- ---- the whole: text in, text out

-- what stands on so many nodes
unfoldable pub listed : List ℕ → ℕ → Store → List ℕ
listed ids n s = nodes_text ids s (shown s n) ++ ok_text (length (shown s n))

-- clear, then scatter
module _ (w : Settings) (regions : ℕ) (ids ranges : List ℕ) (count : ℕ) (particles : Store) where
  unfoldable pub bench_check : Answer
  bench_check =
      scatter_check done w.cell_width w.dt (axes w.gravity) regions ids ranges count particles
      (regions * (region_cells * floats_per_node)) (regions * (region_cells * words_per_node))

  unfoldable pub bench_nodes : Store
  bench_nodes = scattered w.cell_width w.dt (axes w.gravity) ids ranges particles (cleared regions (blank regions))

  unfoldable pub called : List ℕ
  called = cond (refused bench_check) (no_text (number_of bench_check) (index_of bench_check)) (listed ids (regions * region_cells) bench_nodes)

-- The program keeps 64 regions and 256 particles; more of them are 2, once every line was found readable.
abbrev pub kept_regions : ℕ
kept_regions = 64

abbrev pub kept_particles : ℕ
kept_particles = 256

abbrev pub limit_number : ℕ
limit_number = 2

abbrev pub unreadable_number : ℕ
unreadable_number = 11

abbrev pub within_limits : ℕ → ℕ → Bool
within_limits regions particles = leb regions kept_regions && leb particles kept_particles

unfoldable pub answer_to : Read → List ℕ
answer_to (Err k) = no_text unreadable_number k
answer_to (Ok l) =
    cond (within_limits (length l.regions) (length l.particles))
    (called (settings_of l.settings) (length l.regions) (ids_of l.regions) (ranges_of l.regions) (length l.particles) (store (particle_floats_of l.particles) (particle_words_of l.particles)))
    (no_text limit_number 0)

unfoldable pub answer : List ℕ → List ℕ
answer text = answer_to (read_listing text)
