use Rattle.std.proofs.Common.{arith}
use Rattle.fields.proofs.Moving.{moved_none, moved_part}
use Rattle.fields.proofs.lines.shift.Goals as goal

pub returns-then-stop-from-clause-buf_after : goal.returns-then-stop-from-clause-buf_after
returns-then-stop-from-clause-buf_after c = let a = c.args in moved_none a.from a.to a.buf.now (omega arith)

pub returns-clause-buf_after : goal.returns-clause-buf_after
returns-clause-buf_after c = let a = c.args in moved_part a.from a.to _ a.buf.now c.min-stop.ensures (omega arith) c.copy_within.ensures.after
