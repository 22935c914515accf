-- `numeric::roots::scaled_root` meets its contract: the loop keeps n * 4 ^ k, and leaves n with 47 or 48 digits.
use Rattle.std.proofs.Common.{arith}
use Rattle.numeric.proofs.RootLaws.{some_left, quarter}
use Rattle.numeric.proofs.roots.scaled_root.Goals as goal

pub loop-m-preserved : goal.loop-m-preserved
loop-m-preserved c =
    let h = some_left c.loop-m.m c.loop-m.h c.loop-m-test.true (omega arith) in
    omega (arith, h, quarter c.loop-m.m c.loop-m.h h)
