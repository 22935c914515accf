-- `numeric::roots::scaled_root` meets its contract: the loop keeps n * 4 ^ k, and leaves n with 47 or 48 digits.
use Rattle.std.proofs.Common.{◌≡◌, ◌-◌, ◌*◌, ◌^◌, ◌<◌, ◌≤◌}
use Rattle.numeric.proofs.roots.scaled_root.Given as goal

abbrev pub invariant-loop-m : goal.invariant-loop-m
invariant-loop-m l = (0 < l.m) × (l.m < 281474976710656) × (l.m * (2 ^ l.h * 2 ^ l.h) ≡ l.n * (2 ^ l.k * 2 ^ l.k)) × (l.h ≤ l.k)

abbrev pub decreases-loop-m : goal.decreases-loop-m
decreases-loop-m l = 70368744177664 - l.m
