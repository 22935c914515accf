-- `fluids::fluids_volume::reset_masses` meets its contract: the first k nodes are without mass, and the others as they were.
use Rattle.std.proofs.Common.{◌≡◌, ℕ}
use Rattle.laws.specs.Store.{store}
use Rattle.laws.specs.Hits.{run, gather, change_at}
use Rattle.grid.specs.Nodes.{nodes}
use Rattle.fluids.specs.Fluids.{massless}
use Rattle.fluids.proofs.fluids_volume.reset_masses.Given as goal

abbrev pub invariant-loop-k : goal.invariant-loop-k
invariant-loop-k l = store l.nf l.nw ≡ run nodes (gather (change_at (λ (i : ℕ). massless)) l.k) (store l.initial.nf l.initial.nw)
