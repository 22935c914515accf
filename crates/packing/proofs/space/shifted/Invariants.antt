-- `packing::space::shifted` meets its contract: after k turns the k first sums are there.
use Rattle.packing.specs.Ids.{sum}
use Rattle.packing.proofs.Fill.{Filled}
use Rattle.packing.proofs.space.shifted.Given as goal

abbrev pub invariant-loop-x : goal.invariant-loop-x
invariant-loop-x g l = Filled (sum g.S.Space.dim l.id) l.fn.shifts l.x-index l.x-items
