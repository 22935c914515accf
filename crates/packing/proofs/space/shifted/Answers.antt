-- `packing::space::shifted` meets its contract: after k turns the k first sums are there.
use Rattle.std.proofs.Common.{rules}
use Rattle.packing.proofs.Fill.{filled_none, filled_more, filled_all}
use Rattle.packing.proofs.space.shifted.Goals as goal

pub loop-x-init : goal.loop-x-init
loop-x-init g c = filled_none _ _

pub loop-x-preserved : goal.loop-x-preserved
loop-x-preserved g c = filled_more c.loop-x.invariant (search rules) c.packed_add.ensures

pub returns : goal.returns
returns g c = filled_all c.loop-x.invariant (search rules)
