-- `grid::clear_region` meets its contract: c nodes from `first` on are empty.
use Rattle.std.specs.Prelude.{◌≡◌, ◌+◌}
use Rattle.laws.specs.Store.{store}
use Rattle.laws.specs.Hits.{run, gather}
use Rattle.grid.specs.Nodes.{nodes}
use Rattle.grid.specs.Clear.{emptied}
use Rattle.grid.proofs.clear_region.Given as goal

abbrev pub invariant-loop-c : goal.invariant-loop-c
invariant-loop-c l = store l.nf l.nw ≡ run nodes (gather (λ i. emptied (l.first + i)) l.c) (store l.initial.nf l.initial.nw)
