-- `numeric::bits::to_bits` meets its contract: the code writes the NaN's pattern itself.
use lib.Ieee.{to_bits}
use Rattle.numeric.proofs.Patterns.{is_nan_lem}
use Rattle.numeric.proofs.bits.to_bits.Goals as goal

pub returns-then-is_nan : goal.returns-then-is_nan
unfolding to_bits
returns-then-is_nan c = rw (is_nan_lem c.args.x c.if-is_nan.ensures.value)
