-- `numeric::scalar::signum` meets its contract: the sign is the pattern's highest bit.
use Rattle.std.proofs.lemmas.Bool.{lt-leb}
use Rattle.std.proofs.Common.{◌≡◌, Bool, leb, sym, ap, ◌∙◌, arith, le-leb}
use Rattle.numeric.specs.Scalar.{signed, sign_of}
use Rattle.numeric.proofs.Patterns.{yes, bits, is_nan_lem, bits_negative}
use Rattle.numeric.proofs.Signs.{sign_is}
use Rattle.numeric.proofs.scalar.signum.Goals.{Else-is_nan}
use Rattle.numeric.proofs.scalar.signum.Goals as goal

-- The sign is read off the pattern.
by_flag : (c : Else-is_nan) (s : Bool) → leb 2147483648 (bits c.before.args.x) ≡ s → signed s ≡ sign_of c.before.args.x
by_flag c s e =
    let x = c.args.x in
    let n = sym c.if-is_nan.ensures.value in
    ap signed (sym e ∙ sym (bits_negative x (yes c.well_formed.0.1) n)) ∙ sign_is x n

pub returns-then-is_nan : goal.returns-then-is_nan
unfolding sign_of
returns-then-is_nan c = rw (is_nan_lem c.args.x c.if-is_nan.ensures.value)

pub returns-then-x-ge2147483648 : goal.returns-then-x-ge2147483648
returns-then-x-ge2147483648 c = by_flag (goal.at.returns-then-x-ge2147483648 c).Else-is_nan _ (le-leb 2147483648 (bits c.args.x) (omega arith))

pub returns-else-x-ge2147483648 : goal.returns-else-x-ge2147483648
returns-else-x-ge2147483648 c = by_flag (goal.at.returns-else-x-ge2147483648 c).Else-is_nan _ (lt-leb 2147483648 (bits c.args.x) (omega arith))
