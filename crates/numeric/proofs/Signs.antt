-- What `abs` and `signum` cite: magnitude and sign by the sign's flag. Assumes nothing.
use Rattle.std.proofs.Common.{◌≡◌, Bool, true, false, pos, refl, ap, true≢false, Float}
use lib.Ieee.{nan, inf, fin, is_nan, neg, of_bits}
use Rattle.numeric.specs.Bits.{none}
use Rattle.numeric.specs.Scalar.{magnitude, signed, sign_of}
use Rattle.numeric.proofs.Patterns.{negative}

-- With the sign set, the magnitude is what negation gives.
pub sign_set : (x : Float) → negative x ≡ true → neg x ≡ magnitude x
unfolding neg magnitude
sign_set nan h = refl
sign_set (inf s) h = rw h
sign_set (fin s m e) h = rw h

-- With the sign clear, x is its own magnitude.
pub sign_clear : (x : Float) → negative x ≡ false → x ≡ magnitude x
unfolding magnitude
sign_clear nan h = refl
sign_clear (inf s) h = ap inf h
sign_clear (fin s m e) h = rw h

-- A zero's magnitude is +0.
pub zero_magnitude : (s : Bool) → none ≡ magnitude (fin s 0 (pos 0))
unfolding magnitude of_bits
zero_magnitude s = refl

-- A number's sign is 1 with that flag.
pub sign_is : (x : Float) → is_nan x ≡ false → signed (negative x) ≡ sign_of x
unfolding is_nan sign_of
sign_is nan h = absurd (true≢false h)
sign_is (inf s) h = refl
sign_is (fin s m e) h = refl
