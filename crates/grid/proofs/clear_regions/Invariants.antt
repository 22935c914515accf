-- `grid::clear_regions` meets its contract: the nodes of the regions before r are empty.
use Rattle.std.specs.Prelude.{◌≡◌, List, ℕ, ◌+◌, ◌*◌}
use Rattle.laws.specs.Store.{store}
use Rattle.laws.specs.Hits.{Hit, run, gather}
use Rattle.grid.specs.Nodes.{nodes, region_cells}
use Rattle.grid.specs.Clear.{emptied}
use Rattle.grid.specs.declared.grid_node.GridNode.{GridNode}
use Rattle.grid.proofs.clear_regions.Given as goal

-- what clearing region r does
abbrev pub hits : ℕ → List (Hit GridNode)
hits r = gather (λ c. emptied (r * region_cells + c)) region_cells

abbrev pub invariant-loop-r : goal.invariant-loop-r
invariant-loop-r l = store l.nf l.nw ≡ run nodes (gather hits l.r) (store l.initial.nf l.initial.nw)
