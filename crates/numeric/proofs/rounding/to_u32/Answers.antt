-- `numeric::rounding::to_u32` meets its contract: between -1 and 2 ^ 32 the cast to a u64 is that to a u32.
use Rattle.std.proofs.Common.{◌∙◌, arith}
use lib.Ieee.{neg, of_bits}
use Rattle.numeric.proofs.Patterns.{yes}
use Rattle.numeric.proofs.Cast.{from_limit, below_limit, above_minus_one, up_to_minus_one}
use Rattle.numeric.proofs.rounding.to_u32.Goals as goal

-- Whatever came through the first test is below 2 ^ 32. This stands first, so that a cast which is not of x itself is refused here.
pub returns-then-x-2 : goal.returns-then-x-2
returns-then-x-2 c = c.truncating_f32_to_u64.ensures ∙ (below_limit _ c.if-x.false).1

pub overflow_cast-result : goal.overflow_cast-result
overflow_cast-result c = omega (arith, c.truncating_f32_to_u64.ensures, (below_limit _ c.if-x.false).0)

pub truncating_f32_to_u64-requires : goal.truncating_f32_to_u64-requires
unfolding of_bits neg
truncating_f32_to_u64-requires c = record { lower_bound = yes c.if-x-2.true; upper_bound = above_minus_one _ c.if-x.false c.if-x-2.true }

pub returns-then-x : goal.returns-then-x
returns-then-x c = from_limit _ c.if-x.true

pub returns : goal.returns
returns c = up_to_minus_one _ c.if-x.false c.if-x-2.false
