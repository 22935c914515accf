-- Document 01, "Update": locked axes zero momentum and velocity, then colliders in order, on every node of every listed region. What a call is refused for, in the order of
-- the table. Definitions, and what is proved of them.
-- Assumes nothing.
use Rattle.std.specs.Prelude.{◌≡◌, Bool, cond, List, [], ◌∷◌, ◌++◌, ℕ, zero, suc, ◌+◌, ◌*◌, ◌/◌, ◌%◌, ◌^◌, ◌<◌, eqb, ltb, Float, length, get_or}
use Rattle.std.specs.Float.{nan}
use Rattle.packing.specs.Ids.{dim2, cell_of}
use Rattle.numeric.specs.Axes.{pairwise, axes, vector}
use Rattle.numeric.specs.Bits.{none}
use Rattle.laws.specs.Store.{Store, store, Holds}
use Rattle.laws.specs.Hits.{Hit, run, gather}
use Rattle.cells.specs.Cells.{cell_center}
use Rattle.grid.specs.Answers.{first, Answer}
use Rattle.grid.specs.Nodes.{node_form, node_at, nodes, region_cells}
use Rattle.grid.specs.Table.{good_width, good_step, lengths, node_lengths, limits, settings, codes, flags, numbers, region_ids}
use Rattle.grid.specs.declared.grid_node.GridNode.{GridNode}
use Rattle.update.specs.Boundary.{handling_of, known, known_or, collided}
use Rattle.update.specs.declared.grid_update.BoundaryHandling.{BoundaryHandling}
use Rattle.update.specs.declared.grid_update.BoundaryHandling.TheVariants.{None}
use Rattle.update.specs.declared.grid_update.Projection.{Projection}
use Rattle.update.specs.declared.grid_update.Projection.TheVariants.{Inside, Outside}

-- ---- what is given, in lent memory

-- a collider's friction
abbrev pub collider_floats : ℕ
collider_floats = 1

abbrev pub friction_at : List Float → ℕ → Float
friction_at colliders j = get_or colliders (j * collider_floats) nan

-- a projection's point, and whether it is inside
abbrev pub projection_floats : ℕ
projection_floats = 2

abbrev pub projection_words : ℕ
projection_words = 1

abbrev pub projection_at : Store → ℕ → Projection
projection_at s k =
    let x = get_or s.floats (k * projection_floats) nan in
    let y = get_or s.floats (k * projection_floats + 1) nan in
    cond (eqb (get_or s.words (k * projection_words) 0) 0) (Outside x y) (Inside x y)

-- ---- the locks: bit k locks axis k

abbrev pub locks_of : ℕ → ℕ → List Bool
locks_of zero locks = []
locks_of (suc n) locks = eqb (locks % 2) 1 ∷ locks_of n (locks / 2)

-- locked axes are zero
abbrev pub locked : ℕ → List Float → List Float
locked locks v = pairwise (λ (b : Bool) (x : Float). cond b none x) (locks_of 2 locks) v

unfoldable pub locked_node : ℕ → GridNode → GridNode
locked_node locks n =
    record {
      mass = n.mass;
      momentum = vector (locked locks (axes n.momentum));
      velocity = vector (locked locks (axes n.velocity));
      psi_momentum = n.psi_momentum;
      psi_mass = n.psi_mass;
      boundary = n.boundary;
    }

-- ---- the nodes

module _ (handling : BoundaryHandling) (h dt : Float) (colliders : List Float) (projections : Store) where
  -- the first n of the colliders, in order; the cell's projections begin at p
  unfoldable pub after_colliders : List Float → ℕ → ℕ → GridNode → GridNode
  after_colliders centre p zero n = n
  after_colliders centre p (suc j) n = collided handling h dt (friction_at colliders j) centre (projection_at projections (p + j)) (after_colliders centre p j n)

  module _ (locks : ℕ) (ids : List ℕ) (count : ℕ) where
    -- the node of the cell c of the region at place r: locks, then colliders
    unfoldable pub updated_node : ℕ → ℕ → GridNode → GridNode
    updated_node r c n = after_colliders (cell_center dim2 h (cell_of dim2 (get_or ids r 0) c)) ((r * region_cells + c) * count) count (locked_node locks n)

    abbrev pub updated_cell : ℕ → ℕ → List (Hit GridNode)
    updated_cell r c = record { at = r * region_cells + c; change = updated_node r c } ∷ []

    -- the nodes of a region, and those of every region
    unfoldable pub region_updates : ℕ → List (Hit GridNode)
    region_updates r = gather (updated_cell r) region_cells

    unfoldable pub updates : List (Hit GridNode)
    updates = gather region_updates (length ids)

-- what the update makes of the nodes
unfoldable pub updated : Float → Float → ℕ → ℕ → List ℕ → ℕ → List Float → Store → Store → Store
updated h dt code locks ids count colliders projections s = run nodes (updates (known_or None (handling_of code)) h dt colliders projections locks ids count) s

-- ---- what a call is refused for

-- 16 projections for each region and collider
abbrev pub projection_lengths : ℕ → ℕ → ℕ → ℕ → List (ℕ × ℕ)
projection_lengths regions colliders jf jw = (jf, regions * colliders * (region_cells * projection_floats)) ∷ (jw, regions * colliders * (region_cells * projection_words)) ∷ []

-- 4 to 6 of what is given: projections, colliders and projections, ids
unfoldable pub given : List ℕ → List Float → Store → Answer
given ids colliders projections =
    first (
    flags projections.words
    ∷ numbers collider_floats colliders
    ∷ numbers projection_floats projections.floats
    ∷ region_ids ids
    ∷ []
    )

-- the call's own, ahead of records
abbrev pub own_check : ℕ → ℕ → Answer
own_check code locks = codes (known (handling_of code) ∷ ltb locks (2 ^ 2) ∷ [])

-- 1 to 6; of the nodes, only how many floats and words there are
unfoldable pub update_check : Float → Float → ℕ → ℕ → ℕ → List ℕ → ℕ → List Float → Store → ℕ → ℕ → Answer
update_check h dt code locks regions ids count colliders projections nf nw =
    first (
    lengths ((length ids, regions) ∷ (length colliders, count * collider_floats) ∷ projection_lengths regions count (length projections.floats) (length projections.words) ++ node_lengths regions nf nw)
    ∷ limits regions 0 count
    ∷ settings (good_width h ∷ good_step dt ∷ [])
    ∷ own_check code locks
    ∷ given ids colliders projections
    ∷ []
    )

-- ---- what is proved where nothing is refused: what the update builds on

pub record Ready (ids : List ℕ) (count : ℕ) (colliders : List Float) (projections s : Store) : Type 0 where
  pub colliders_long : length colliders ≡ count * collider_floats
  pub floats_long : length projections.floats ≡ length ids * count * (region_cells * projection_floats)
  pub words_long : length projections.words ≡ length ids * count * (region_cells * projection_words)
  pub nodes_held : Holds node_form s (length ids * region_cells)

-- ---- what is proved of it, where the store has the nodes of the listed regions, whatever else it is given

-- a node of zero mass, momentum and velocity
pub record Zero (n : GridNode) : Type 0 where
  pub mass : n.mass ≡ none
  pub momentum : axes n.momentum ≡ none ∷ none ∷ []
  pub velocity : axes n.velocity ≡ none ∷ none ∷ []

pub record Laws (h dt : Float) (code locks : ℕ) (ids : List ℕ) (count : ℕ) (colliders : List Float) (projections s : Store) (nodes_held : Holds node_form s (length ids * region_cells)) : Type 0 where
  -- Every node of every region is updated, once, from what it held before the call.
  pub each : (r c : ℕ) → r < length ids → c < region_cells
      → node_at (updated h dt code locks ids count colliders projections s) (r * region_cells + c)
      ≡ updated_node (known_or None (handling_of code)) h dt colliders projections locks ids count r c (node_at s (r * region_cells + c))
  -- A node that is zero stays zero.
  pub zero_stays : (r c : ℕ) → r < length ids → c < region_cells → Zero (node_at s (r * region_cells + c))
      → Zero (node_at (updated h dt code locks ids count colliders projections s) (r * region_cells + c))
  -- There are as many nodes as before.
  pub held : Holds node_form (updated h dt code locks ids count colliders projections s) (length ids * region_cells)

-- ---- what is proved of empty lists

pub record Empty : Type 0 where
  -- With no colliders an update is refused for its lengths, its counts, its settings, its own and its ids alone; with no regions either, for its settings and its own.
  pub colliders : (h dt : Float) (code locks regions : ℕ) (ids : List ℕ) (nf nw : ℕ)
      → update_check h dt code locks regions ids 0 [] (store [] []) nf nw
      ≡ first (
      lengths ((length ids, regions) ∷ (0, 0) ∷ projection_lengths regions 0 0 0 ++ node_lengths regions nf nw)
      ∷ limits regions 0 0
      ∷ settings (good_width h ∷ good_step dt ∷ [])
      ∷ own_check code locks
      ∷ region_ids ids
      ∷ []
      )
  pub check : (h dt : Float) (code locks : ℕ) → update_check h dt code locks 0 [] 0 [] (store [] []) 0 0 ≡ first (settings (good_width h ∷ good_step dt ∷ []) ∷ own_check code locks ∷ [])
  -- With no colliders a node is locked alone; with no regions the update leaves what it was lent, whatever else it is given.
  pub locks_alone : (handling : BoundaryHandling) (h dt : Float) (colliders : List Float) (projections : Store) (locks : ℕ) (ids : List ℕ) (r c : ℕ) (n : GridNode)
      → updated_node handling h dt colliders projections locks ids 0 r c n ≡ locked_node locks n
  pub kept : (h dt : Float) (code locks count : ℕ) (colliders : List Float) (projections s : Store) → updated h dt code locks [] count colliders projections s ≡ s
