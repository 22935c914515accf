use Rattle.std.proofs.Common.{arith, le-ltb}
use Rattle.fields.proofs.Moving.{begins_none, begins_some}
use Rattle.fields.proofs.lines.begins.Goals as goal

pub returns-then-from-min : goal.returns-then-from-min
returns-then-from-min c = let a = c.args in begins_some a.byte a.from a.to a.s.now (omega arith)

pub returns-else-from-min : goal.returns-else-from-min
returns-else-from-min c = let a = c.args in rw (le-ltb _ _ c.if-from-min.false) (begins_none a.byte a.from a.to a.s.now (omega arith))
