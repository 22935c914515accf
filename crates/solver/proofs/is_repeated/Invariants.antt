-- The entry stands at no place from k to i.
use Rattle.std.proofs.Common.{◌≡◌}
use Rattle.solver.specs.Order.{repeated}
use Rattle.solver.proofs.is_repeated.Given as goal

abbrev pub invariant-loop-k : goal.invariant-loop-k
invariant-loop-k l = repeated l.order l.i l.i ≡ repeated l.order l.i l.k
