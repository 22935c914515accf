-- `numeric::inner::nearest_whole` meets its contract: twice the number without its fraction, halved up.
use Rattle.std.proofs.Common.{◌+◌, ◌-◌, ◌/◌, ◌%◌, ◌^◌, ◌<◌, arith, lit≤}
use Rattle.numeric.proofs.Whole.{small_field, by_shift, shift_lt}
use Rattle.numeric.proofs.inner.nearest_whole.Goals as goal

pub returns-then-field-lt126 : goal.returns-then-field-lt126
returns-then-field-lt126 c = (small_field c.args.a (omega arith), lit≤ tt)

pub returns : goal.returns
returns c =
    -- the shift leaves 24 digits at most
    let a = c.args.a in
    let small : (8388608 + a % 8388608) / 2 ^ (149 - a / 8388608) < 2 ^ 24 = shift_lt _ _ (omega arith) in
    (by_shift a (omega arith) (omega arith), omega (arith, small))
