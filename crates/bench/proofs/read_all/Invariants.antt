-- The buffer keeps its length; what is read into it is told by no contract.
use Rattle.std.proofs.Common.{◌≡◌, length}
use Rattle.bench.proofs.read_all.Given as goal

abbrev pub invariant-loop : goal.invariant-loop
invariant-loop g l = length l.space ≡ 65536
