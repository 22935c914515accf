-- `fluids::fluids_volume::recompute` meets its contract: in each branch.
use Rattle.std.proofs.Common.{rules}
use Rattle.fluids.specs.Fluids.{recomputed_in}
use Rattle.fluids.proofs.fluids_volume.recompute.Goals as goal

pub returns-then-q-eq0 : goal.returns-then-q-eq0
unfolding recomputed_in
returns-then-q-eq0 c = search rules

pub returns : goal.returns
unfolding recomputed_in
returns c = search rules
