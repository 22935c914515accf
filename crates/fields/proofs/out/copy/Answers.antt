use Rattle.std.proofs.Common.{arith, add-one}
use Rattle.std.proofs.Math.Seq.{paste-suc}
use Rattle.fields.proofs.out.copy.Goals as goal

pub loop-i-preserved : goal.loop-i-preserved
loop-i-preserved c =
    let a = c.args in
    rw (c.loop-i.invariant, add-one) (paste-suc a.out.now a.at a.s.now c.loop-i.i 0 (omega arith) (omega arith))
