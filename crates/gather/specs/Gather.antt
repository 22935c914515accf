-- Document 01, "Gather": both halves, of every particle; what a call of each is refused for, in the order of the table. Definitions, and what is proved of them.
-- Assumes nothing.
use Rattle.std.specs.Prelude.{◌≡◌, ℕ, zero, suc, ◌+◌, ◌*◌, ◌<◌, ◌≤◌, List, [], ◌∷◌, ◌++◌, length, slice_index, slice_index_or, Float, None, Option, Some}
use Rattle.std.specs.Float.{nan}
use Rattle.packing.specs.Ids.{dim2, region, stencil_of}
use Rattle.packing.specs.declared.dim2.Cell.{Cell}
use Rattle.numeric.specs.Bits.{none}
use Rattle.laws.specs.Store.{Store, store, Holds}
use Rattle.laws.specs.Hits.{Hit, run, gather, change_at, changes}
use Rattle.cells.specs.Cells.{cell_associated_to_point, region_associated_to_point}
use Rattle.cells.specs.Stencil.{stencil_cells, shift_at, step_at, dir_to_associated_grid_node}
use Rattle.grid.specs.Answers.{first, Answer, done}
use Rattle.grid.specs.Nodes.{node_form, node_at, empty_node, region_cells}
use Rattle.grid.specs.Table.{lengths, limits, good_width, good_step, settings, codes, is_flag, flags, numbers}
use Rattle.grid.specs.declared.Rule.TheVariants.{Code, NotFinite}
use Rattle.grid.specs.declared.grid_node.GridNode.{GridNode}
use Rattle.particles.specs.Particles.{particle_form, particle_at, particles, position_of}
use Rattle.particles.specs.Blocks.{BlockIn, corner_of, place_at, AllThere}
use Rattle.particles.specs.Places.{node_place}
use Rattle.particles.specs.Table.{particle_lengths, first_particle, stage_check, OnGrid, Reached}
use Rattle.particles.specs.declared.particle.Particle.{Particle}
use Rattle.gather.specs.Transfer.{Taken, Given, nothing, taken_from, on, node_of, advanced, finished}

-- ---- the first half

-- the node at a place. A cell whose region is not listed has none, and is refused with 10; it would count as empty.
abbrev pub node_found : Store → Option ℕ → GridNode
node_found nodes (Some k) = node_at nodes k
node_found nodes None = empty_node

unfoldable pub node_of_cell : List ℕ → Store → ℕ → GridNode
node_of_cell ids nodes cell = node_found nodes (node_place ids cell)

-- what the nodes of a stencil add up to, in stencil order: of its first n cells
module _ {A : Type 0} (ids : List ℕ) (nodes : Store) (add : List ℕ → GridNode → A → A) (start : A) where
  unfoldable pub over_cells : List ℕ → ℕ → A
  over_cells stencil zero = start
  over_cells stencil (suc n) = add (shift_at dim2 n) (node_of_cell ids nodes (slice_index stencil n)) (over_cells stencil n)

-- and of all of them, for a point
abbrev pub over_stencil : {A : Type 0} → Float → List ℕ → Store → (List ℕ → GridNode → A → A) → A → List Float → A
over_stencil h ids nodes add start position = over_cells ids nodes add start (stencil_of dim2 (cell_associated_to_point dim2 h position)) stencil_cells

module _ (h : Float) (ids : List ℕ) (nodes : Store) where
  -- from +0, by a particle at a point
  unfoldable pub taken : List Float → Taken
  taken position =
      let dir = dir_to_associated_grid_node h position in
      over_stencil h ids nodes (λ (shift : List ℕ) (n : GridNode). taken_from h dir shift (node_of n)) (nothing dir) position

  -- what becomes of a particle
  unfoldable pub first_change : Float → ℕ → Particle → Particle
  first_change dt modified q = advanced (on modified) h dt (taken (position_of q)) q

-- ---- as the code goes: by the places of the block of the particle's region, column by column

module _ {A : Type 0} (nodes : Store) (add : List ℕ → GridNode → A → A) (block : List ℕ) (corner : ℕ) where
  -- on top of a: of the first n nodes of the column that lies x beyond the corner
  unfoldable pub over_column : ℕ → ℕ → A → A
  over_column x zero a = a
  over_column x (suc n) a = add (x ∷ step_at n ∷ []) (node_found nodes (place_at block corner x (step_at n))) (over_column x n a)

  -- of the first n columns
  unfoldable pub over_columns : ℕ → A → A
  over_columns zero a = a
  over_columns (suc n) a = over_column (step_at n) 3 (over_columns n a)

-- whatever adds a node, it adds what `add` says
abbrev pub Adds : {A : Type 0} → (A → Cell → GridNode → A → Type 0) → (List ℕ → GridNode → A → A) → Type 0
Adds {A} Added add = (a b : A) (shift : Cell) (n : GridNode) → Added a shift n b → b ≡ add (shift.x ∷ shift.y ∷ []) n a

-- what one node adds to what a particle has taken
abbrev pub adding : Float → List Float → List ℕ → GridNode → Taken → Taken
adding h dir shift n a = taken_from h dir shift (node_of n) a

unfoldable pub taken_in : Float → List ℕ → Store → Particle → Taken
taken_in h block nodes q =
    let dir = dir_to_associated_grid_node h (position_of q) in
    over_columns nodes (adding h dir) block (corner_of h q) 3 (nothing dir)

-- the places of a block are places of nodes, and there is one for each cell of the stencil that begins at a corner
pub record Serves (block : List ℕ) (corner : ℕ) (nodes : Store) : Type 0 where
  pub there : AllThere block corner
  pub places : BlockIn block (length nodes.words)
  pub held : Holds node_form nodes (length nodes.words)

-- what the particles of a region, from start on, may build on
pub record Ranged (h : Float) (ids : List ℕ) (r start count : ℕ) (s nodes : Store) : Type 0 where
  pub all : ℕ
  pub whole : region r ≡ r
  pub particles_held : Holds particle_form s all
  pub nodes_held : Holds node_form nodes (length ids * region_cells)
  pub within : start + count ≤ all
  pub in_region : (p : ℕ) → start ≤ p → p < start + count → region_associated_to_point dim2 h (position_of (particle_at s p)) ≡ r
  pub on_grid_lem : (p : ℕ) → start ≤ p → p < start + count → OnGrid h (particle_at s p)
  pub stencils : (p : ℕ) → start ≤ p → p < start + count → Reached h ids (particle_at s p)

-- n particles from a place on, each changed
abbrev pub changes_from : (Particle → Particle) → ℕ → ℕ → List (Hit Particle)
changes_from change start n = gather (λ (j : ℕ). change_at (λ (p : ℕ). change) (start + j)) n

-- ---- the second half

-- what is given for a particle, in lent memory: density and energy, and whether its model says that it failed
abbrev pub given_floats : ℕ
given_floats = 2

abbrev pub given_words : ℕ
given_words = 1

abbrev pub given_at : Store → ℕ → Given
given_at s p =
    record {
      density = slice_index_or s.floats (p * given_floats) nan;
      energy = slice_index_or s.floats (p * given_floats + 1) nan;
      failed = on (slice_index s.words (p * given_words));
    }

unfoldable pub second_change : Store → ℕ → Particle → Particle
second_change given p q = finished (given_at given p) q

-- ---- of every particle

unfoldable pub first_half : Float → Float → ℕ → List ℕ → Store → ℕ → Store → Store
first_half h dt modified ids nodes count s = run particles (changes (λ (p : ℕ). first_change h ids nodes dt modified) count) s

unfoldable pub second_half : Store → ℕ → Store → Store
second_half given count s = run particles (changes (second_change given) count) s

-- ---- what a call is refused for

-- 1 to 10: h and dt are the first half's settings, and modified eigenerosion is its own in 4; of the nodes, only how many floats and words there are
unfoldable pub first_check : Float → Float → ℕ → ℕ → List ℕ → List ℕ → ℕ → Store → ℕ → ℕ → Answer
first_check h dt modified regions ids ranges count s nf nw = stage_check (good_width h ∷ good_step dt ∷ []) (codes (is_flag modified ∷ [])) h regions ids ranges count s nf nw

-- a record for each particle
abbrev pub given_lengths : ℕ → ℕ → ℕ → List (ℕ × ℕ)
given_lengths count gf gw = (gf, count * given_floats) ∷ (gw, count * given_words) ∷ []

-- 4 and 5 of the second half's records: the particles, then what is given. These two rules look neither at h nor at a list of regions.
unfoldable pub records_check : ℕ → Store → Store → Answer
records_check count s given =
    first (
    first_particle Code none [] 0 s 0 count
    ∷ flags given.words
    ∷ first_particle NotFinite none [] 0 s 0 count
    ∷ numbers given_floats given.floats
    ∷ []
    )

-- 1, 2, 4 and 5
unfoldable pub second_check : ℕ → Store → Store → Answer
second_check count s given =
    first (
    lengths (particle_lengths count (length s.floats) (length s.words) ++ given_lengths count (length given.floats) (length given.words))
    ∷ limits 0 count 0
    ∷ records_check count s given
    ∷ []
    )

-- ---- what is proved of both

-- fields that the first half does not name
pub record FirstKeeps (a b : Particle) : Type 0 where
  pub stress : a.stress ≡ b.stress
  pub mass : a.mass ≡ b.mass
  pub volume0 : a.volume0 ≡ b.volume0
  pub crack : a.crack_propagation_factor ≡ b.crack_propagation_factor
  pub psi : a.psi_pos ≡ b.psi_pos
  pub threshold : a.crack_threshold ≡ b.crack_threshold
  pub parameter1 : a.parameter1 ≡ b.parameter1
  pub parameter2 : a.parameter2 ≡ b.parameter2
  pub kinematic_velocity : a.kinematic_vel ≡ b.kinematic_vel
  pub flags : particle_form.words_of a ≡ particle_form.words_of b

-- and those that the second does not
pub record SecondKeeps (a b : Particle) : Type 0 where
  pub position : a.position ≡ b.position
  pub stress : a.stress ≡ b.stress
  pub mass : a.mass ≡ b.mass
  pub volume0 : a.volume0 ≡ b.volume0
  pub crack : a.crack_propagation_factor ≡ b.crack_propagation_factor
  pub threshold : a.crack_threshold ≡ b.crack_threshold
  pub kinematic_velocity : a.kinematic_vel ≡ b.kinematic_vel
  pub kinematic : a.kinematic ≡ b.kinematic
  pub fluid : a.fluid ≡ b.fluid
  pub static : a.is_static ≡ b.is_static

pub record Laws (s : Store) (n : ℕ) (held : Holds particle_form s n) : Type 0 where
  -- Every particle is changed, once, from what it held before the call.
  pub first : (h dt : Float) (modified : ℕ) (ids : List ℕ) (nodes : Store) (p : ℕ) → p < n
      → particle_at (first_half h dt modified ids nodes n s) p ≡ first_change h ids nodes dt modified (particle_at s p)
  pub second : (given : Store) (p : ℕ) → p < n → particle_at (second_half given n s) p ≡ second_change given p (particle_at s p)
  -- What a half does not name stays.
  pub first_keeps : (h dt : Float) (modified : ℕ) (ids : List ℕ) (nodes : Store) (p : ℕ) → p < n → FirstKeeps (particle_at (first_half h dt modified ids nodes n s) p) (particle_at s p)
  pub second_keeps : (given : Store) (p : ℕ) → p < n → SecondKeeps (particle_at (second_half given n s) p) (particle_at s p)
  -- There are as many particles as before.
  pub first_held : (h dt : Float) (modified : ℕ) (ids : List ℕ) (nodes : Store) → Holds particle_form (first_half h dt modified ids nodes n s) n
  pub second_held : (given : Store) → Holds particle_form (second_half given n s) n

-- ---- what is proved of empty lists

pub record Empty : Type 0 where
  -- With no regions and no particles the first half is refused for its settings and its own alone, the second for nothing; with no particles both leave what they were lent.
  pub first_check_lem : (h dt : Float) (modified : ℕ) → first_check h dt modified 0 [] [] 0 (store [] []) 0 0 ≡ first (settings (good_width h ∷ good_step dt ∷ []) ∷ codes (is_flag modified ∷ []) ∷ [])
  pub first_kept : (h dt : Float) (modified : ℕ) (ids : List ℕ) (nodes s : Store) → first_half h dt modified ids nodes 0 s ≡ s
  pub second_check_lem : second_check 0 (store [] []) (store [] []) ≡ done
  pub second_kept : (given s : Store) → second_half given 0 s ≡ s
