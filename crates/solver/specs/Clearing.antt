-- Demand 2 of the request, its last sentence: "with one region list throughout and no host write to nodes between the calls, a node that no stencil reached after clearing
-- still has zero mass, momentum and velocity after the grid update". Definitions, and what is proved of them.
-- Assumes nothing.
use Rattle.grid.specs.Answers.{done}
use Rattle.std.specs.Prelude.{◌≡◌, ◌⊎◌, ◌↔◌, List, [], ◌∷◌, ℕ, ◌+◌, ◌*◌, ◌≤◌, ◌<◌, Float, length}
use Rattle.laws.specs.Store.{Store}
use Rattle.cells.specs.Stencil.{stencil_cells}
use Rattle.grid.specs.Nodes.{node_at, region_cells}
use Rattle.grid.specs.Table.{start_of, count_of}
use Rattle.grid.specs.Clear.{clear_check, cleared}
use Rattle.scatter.specs.Scatter.{scatter_check, stencil_id, node_id}
use Rattle.update.specs.Update.{update_check, Zero}
use Rattle.solver.specs.Step.{step_check, stepped}
use Rattle.solver.specs.Calls.{Call, answer, left, after}
use Rattle.solver.specs.Calls.Call.{clearing, scattering, scattering_region, scattering_in_order, updating, in_turn, gathering_first, gathering_second, recomputing}

-- ---- which nodes are reached, by ids

-- whether a call takes the particle p to the nodes and leaves something there; gather goes from the nodes to the particles, and fluids take their mass off again
abbrev pub Served : Call → ℕ → Type 0
Served (clearing regions) p = ⊥
Served (scattering c) p = p < c.count
Served (scattering_region place c) p = (start_of c.ranges place ≤ p) × (p < start_of c.ranges place + count_of c.ranges place)
Served (scattering_in_order order c) p = p < c.count
Served (updating c) p = ⊥
Served (in_turn c code locks count colliders projections) p = p < c.count
Served (gathering_first c) p = ⊥
Served (gathering_second c) p = ⊥
Served (recomputing c) p = ⊥

-- the id that it takes a particle to by a shift; one that serves no particle takes none anywhere
abbrev pub id_of : Call → ℕ → ℕ → ℕ
id_of (clearing regions) p k = 0
id_of (scattering c) p k = stencil_id c.h c.particles p k
id_of (scattering_region place c) p k = stencil_id c.h c.particles p k
id_of (scattering_in_order order c) p k = stencil_id c.h c.particles p k
id_of (updating c) p k = 0
id_of (in_turn c code locks count colliders projections) p k = stencil_id c.h c.particles p k
id_of (gathering_first c) p k = 0
id_of (gathering_second c) p k = 0
id_of (recomputing c) p k = 0

-- an accepted call takes a particle to the id
pub record Reaches (ids : List ℕ) (s : Store) (call : Call) (id : ℕ) : Type 0 where
  pub accepted : answer ids call s ≡ done
  pub particle : ℕ
  pub shift : ℕ
  pub served : Served call particle
  pub within : shift < stencil_cells
  pub there : id_of call particle shift ≡ id

-- one of the calls does
abbrev pub Reached : List ℕ → List Call → Store → ℕ → Type 0
Reached ids [] s id = ⊥
Reached ids (c ∷ calls) s id = Reaches ids s c id ⊎ Reached ids calls (left ids c s) id

-- every node that no particle's stencil reaches is zero
abbrev pub EmptyElsewhere : Float → List ℕ → ℕ → Store → Store → Type 0
EmptyElsewhere h ids count particles s =
    (r c : ℕ) → r < length ids → c < region_cells → ((p k : ℕ) → p < count → k < stencil_cells → stencil_id h particles p k ≡ node_id ids r c → ⊥) → Zero (node_at s (r * region_cells + c))

-- ---- what is proved: demand 2's last sentence

pub record Demand2 : Type 0 where
  -- After clear and any list of calls, refused ones included, a node that none of them reached is zero.
  pub unreached : (regions : ℕ) (ids : List ℕ) (calls : List Call) (s : Store) (r c : ℕ)
      → clear_check regions ids (length s.floats) (length s.words) ≡ done
      → r < length ids → c < region_cells
      → (Reached ids calls (cleared regions s) (node_id ids r c) → ⊥)
      → Zero (node_at (after ids calls (cleared regions s)) (r * region_cells + c))
  -- The three in turn are accepted exactly where each of them is, whatever the nodes hold,
  pub accepted : (h dt : Float) (gravity : List Float) (code locks regions : ℕ) (ids ranges : List ℕ) (count : ℕ) (particles : Store) (colliders : ℕ) (frictions : List Float) (projections : Store) (nf nw : ℕ)
      → (step_check h dt gravity code locks regions ids ranges count particles colliders frictions projections nf nw ≡ done)
      ↔ ((clear_check regions ids nf nw ≡ done)
      × (scatter_check done h dt gravity regions ids ranges count particles nf nw ≡ done)
      × (update_check h dt code locks regions ids colliders frictions projections nf nw ≡ done))
  -- and leave every node zero that no particle's stencil reached.
  pub step : (h dt : Float) (gravity : List Float) (code locks regions : ℕ) (ids ranges : List ℕ) (count : ℕ) (particles : Store) (colliders : ℕ) (frictions : List Float) (projections s : Store)
      → step_check h dt gravity code locks regions ids ranges count particles colliders frictions projections (length s.floats) (length s.words) ≡ done
      → EmptyElsewhere h ids count particles (stepped h dt gravity code locks regions ids ranges count particles colliders frictions projections s)
