-- `numeric::roots::halved_root` meets its contract: the root is at least lo and below hi, and the loop halves the gap.
use Rattle.std.proofs.Common.{◌-◌, ◌*◌, ◌<◌, ◌≤◌}
use Rattle.numeric.proofs.roots.halved_root.Given as goal

abbrev pub invariant-loop-hi : goal.invariant-loop-hi
invariant-loop-hi l = (l.lo < l.hi) × (l.hi ≤ 4294967296) × (l.lo * l.lo ≤ l.n) × (l.n < l.hi * l.hi)

abbrev pub decreases-loop-hi : goal.decreases-loop-hi
decreases-loop-hi l = l.hi - l.lo
