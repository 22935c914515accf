-- `numeric::roots::guessed_root` is safe: neither pattern is a NaN's.
use Rattle.std.proofs.Common.{arith}
use Rattle.numeric.proofs.Patterns.{no, no_nan_bits}
use Rattle.numeric.proofs.roots.guessed_root.Goals as goal

pub float_from_bits-x : goal.float_from_bits-x
float_from_bits-x c = no (no_nan_bits _ (omega arith))

pub float_from_bits-a : goal.float_from_bits-a
float_from_bits-a c = no (no_nan_bits _ (omega arith))
