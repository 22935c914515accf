-- The buffer keeps its length, and fewer lines are left at each turn.
use Rattle.std.proofs.Common.{◌≡◌, ◌≤◌, length}
use Rattle.replay.proofs.next.Given as goal

abbrev pub invariant-loop-place : goal.invariant-loop-place
invariant-loop-place g l = (length l.buf ≡ length l.initial.buf) × (l.at.left ≤ l.initial.at.left)

abbrev pub decreases-loop-place : goal.decreases-loop-place
decreases-loop-place g l = l.at.left
