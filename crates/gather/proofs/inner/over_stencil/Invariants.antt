-- `gather::inner::over_stencil` meets its contract: the columns below i are added, and of the column at i the nodes below j.
use Rattle.std.proofs.Common.{◌≡◌, ℕ, List}
use Rattle.laws.specs.Store.{store}
use Rattle.cells.specs.Stencil.{step_at}
use Rattle.grid.specs.declared.grid_node.GridNode.{GridNode}
use Rattle.gather.specs.Gather.{Adds, over_column, over_columns}
use Rattle.gather.proofs.inner.over_stencil.Given as goal

abbrev pub invariant-loop-i : goal.invariant-loop-i
invariant-loop-i g l =
    (step : List ℕ → GridNode → g.row.A.Denot → g.row.A.Denot) → Adds (goal.F-post g l.add) step → l.sum ≡ over_columns (store l.nf l.nw) step l.block l.corner l.i l.fn.start

abbrev pub invariant-loop-j : goal.invariant-loop-j
invariant-loop-j g l =
    (step : List ℕ → GridNode → g.row.A.Denot → g.row.A.Denot) → Adds (goal.F-post g l.add) step
    → l.sum ≡ over_column (store l.nf l.nw) step l.block l.corner (step_at l.i) l.j (over_columns (store l.nf l.nw) step l.block l.corner l.i l.fn.start)
