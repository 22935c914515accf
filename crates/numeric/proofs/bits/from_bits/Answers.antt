-- `numeric::bits::from_bits` meets its contract: the code makes the NaN itself, and no other pattern is a NaN's.
use Rattle.std.proofs.Common.{◌%◌, sym, ◌∙◌, arith, le-ltb, lt-ltb}
use lib.Ieee.{binary32}
use lib.Ieee.Bits.{nan_bits_above}
use Rattle.numeric.proofs.Patterns.{no, zero_by_zero, nan_pattern}
use Rattle.numeric.proofs.bits.from_bits.Goals as goal

pub returns-then-b-gt2139095040 : goal.returns-then-b-gt2139095040
returns-then-b-gt2139095040 c = let b = c.args.b in zero_by_zero ∙ sym (nan_pattern b (nan_bits_above binary32 b ∙ lt-ltb 2139095040 (b % 2147483648) (omega arith)))

pub float_from_bits-result : goal.float_from_bits-result
float_from_bits-result c = let b = c.args.b in no (nan_bits_above binary32 b ∙ le-ltb 2139095040 (b % 2147483648) (omega arith))
