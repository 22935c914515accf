-- Document 01, "Clear": every node of every listed region becomes all +0, flag off. Definitions, and what is proved of them.
-- Assumes nothing.
use Rattle.std.specs.Prelude.{◌≡◌, List, [], ◌∷◌, ℕ, ◌+◌, ◌*◌, ◌<◌, length}
use Rattle.laws.specs.Store.{Store, Holds}
use Rattle.laws.specs.Hits.{Hit, run, gather}
use Rattle.grid.specs.Answers.{first, Answer}
use Rattle.grid.specs.Nodes.{node_form, node_at, nodes, empty_node, region_cells}
use Rattle.grid.specs.Table.{lengths, node_lengths, limits, region_ids}
use Rattle.grid.specs.declared.grid_node.GridNode.{GridNode}

-- 1, 2 and 6
unfoldable pub clear_check : ℕ → List ℕ → ℕ → ℕ → Answer
clear_check regions ids nf nw =
    first (
    lengths ((length ids, regions) ∷ node_lengths regions nf nw)
    ∷ limits regions 0 0
    ∷ region_ids ids
    ∷ []
    )

-- the node at a place becomes empty
abbrev pub emptied : ℕ → List (Hit GridNode)
emptied k = record { at = k; change = λ n. empty_node } ∷ []

-- the nodes of a region, from the first on
unfoldable pub cleared_region : ℕ → Store → Store
cleared_region place s = run nodes (gather (λ c. emptied (place + c)) region_cells) s

-- the nodes of every region
unfoldable pub cleared : ℕ → Store → Store
cleared regions s = run nodes (gather (λ r. gather (λ c. emptied (r * region_cells + c)) region_cells) regions) s

-- ---- what is proved of it, where the store has the nodes of so many regions

pub record Laws (regions : ℕ) (s : Store) (held : Holds node_form s (regions * region_cells)) : Type 0 where
  -- every node is empty, whatever it held, and there are as many as before
  pub each : (k : ℕ) → k < regions * region_cells → node_at (cleared regions s) k ≡ empty_node
  pub holds : Holds node_form (cleared regions s) (regions * region_cells)
