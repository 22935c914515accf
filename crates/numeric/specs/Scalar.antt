-- Document 01, "Float rules": inverse, maximum, and what the kernel needs of a number's size and sign. Definitions only.
use Rattle.std.specs.Prelude.{Bool, true, false, cond, ◌&&◌, is_nan, Float}
use Rattle.std.specs.Float.{nan, inf, fin}
use Rattle.std.specs.Float.Ieee.{lt, eq, neg}
use Rattle.numeric.specs.Bits.{none, one, ◌⊘◌}

-- Inverse: 0 for zero, else 1/e.
unfoldable pub inverse : Float → Float
inverse e = cond (eq e none) none (one ⊘ e)

-- Maximum: the number if one side is NaN; of two zeros, +0.
unfoldable pub maximum : Float → Float → Float
maximum a b =
    cond (is_nan a) b
    (cond (is_nan b) a
    (cond (eq a none && eq b none) none
    (cond (lt a b) b a)))

-- |x|
unfoldable pub magnitude : Float → Float
magnitude nan = nan
magnitude (inf s) = inf false
magnitude (fin s m e) = fin false m e

-- 1 with a sign
abbrev pub signed : Bool → Float
signed true = neg one
signed false = one

-- The sign of x, also of a zero: 1 at +0, -1 at -0.
unfoldable pub sign_of : Float → Float
sign_of nan = nan
sign_of (inf s) = signed s
sign_of (fin s m e) = signed s
