-- `numeric::scalar::abs` meets its contract: what is below 0 has its sign set, what is above has it clear.
use Rattle.std.proofs.Common.{sym, ap, ◌∙◌}
use Rattle.numeric.specs.Scalar.{magnitude}
use Rattle.numeric.proofs.Patterns.{yes, below_zero, above_zero, is_zero}
use Rattle.numeric.proofs.Signs.{sign_set, sign_clear, zero_magnitude}
use Rattle.numeric.proofs.scalar.abs.Goals as goal

pub returns-then-x : goal.returns-then-x
returns-then-x c = sign_set c.args.x (below_zero _ c.if-x.true)

pub returns-then-x-2 : goal.returns-then-x-2
returns-then-x-2 c =
    zero_magnitude _ ∙ ap magnitude (sym (is_zero c.args.x (yes c.well_formed.0.1) c.if-x-2.true))

pub returns-else-x-2 : goal.returns-else-x-2
returns-else-x-2 c = sign_clear c.args.x (above_zero _ c.if-x.false c.if-x-2.false)
