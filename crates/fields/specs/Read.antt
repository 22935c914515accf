-- What is read of a line: a place, a number. Assumes nothing.
use Rattle.std.specs.Prelude.{ℕ, suc, ◌+◌, ◌-◌, ◌*◌, ◌^◌, min, Bool, false, cond, Option, Some, None, List, [], ◌∷◌, length, drop, eqb, leb, ltb, ℤ, pos, ◌-ℤ◌}
use Rattle.std.proofs.Math.Seq.{slice}

-- how many elements of a list stand before the first b: all of them where none is b
unfoldable pub before : ℕ → List ℕ → ℕ
before b [] = 0
before b (x ∷ xs) = cond (eqb x b) 0 (suc (before b xs))

-- the place of the first b of a list at or after `at`, or the list's length
unfoldable pub place_of : ℕ → ℕ → List ℕ → ℕ
place_of b at xs = min at (length xs) + before b (drop at xs)

-- whether the first element of a list is b
unfoldable pub begins_with : ℕ → List ℕ → Bool
begins_with b [] = false
begins_with b (x ∷ xs) = eqb x b

-- the value of a byte as a digit, `0` to `9` and `A` to `F`, and 16 for any other byte
unfoldable pub digit_of : ℕ → ℕ
digit_of b = cond (ltb b 48) 16 (cond (leb b 57) (b - 48) (cond (ltb b 65) 16 (cond (leb b 70) (b - 65 + 10) 16)))

-- the number whose digits in a base, of at most 16, are those of n and then those of a list; None where a byte of the list is no digit of the base
unfoldable pub onward : ℕ → ℕ → List ℕ → Option ℕ
onward base n [] = Some n
onward base n (x ∷ xs) = cond (ltb (digit_of x) base) (onward base (n * base + digit_of x) xs) None

-- a number below 2^64, as it is, and None for any other
unfoldable pub bounded : Option ℕ → Option ℕ
bounded (Some n) = cond (ltb n (2 ^ 64)) (Some n) None
bounded None = None

-- the number that a list of digits spells in a base
unfoldable pub number_of : ℕ → List ℕ → Option ℕ
number_of base xs = bounded (onward base 0 xs)

-- upper case hexadecimal digits, as many as are asked for, 1 to 16
unfoldable pub hex_of : ℕ → List ℕ → Option ℕ
hex_of digits xs = cond (eqb digits 0) None (cond (leb digits 16) (cond (eqb (length xs) digits) (number_of 16 xs) None) None)

-- a plain decimal: a single digit, or several of which the first is not `0`
unfoldable pub decimal_of : List ℕ → Option ℕ
decimal_of [] = None
decimal_of (x ∷ []) = number_of 10 (x ∷ [])
decimal_of (x ∷ (y ∷ xs)) = cond (eqb x 48) None (number_of 10 (x ∷ (y ∷ xs)))

-- what is read in the part of s from one place up to another, and None where s ends before
unfoldable pub read_in : (List ℕ → Option ℕ) → ℕ → ℕ → List ℕ → Option ℕ
read_in read from to s = cond (leb to (length s)) (read (slice from to s)) None

-- the number that 32 bits say in two's complement: from 2^31 on, 2^32 less
unfoldable pub signed_of : ℕ → ℤ
signed_of bits = cond (ltb bits (2 ^ 31)) (pos bits) (pos bits -ℤ pos (2 ^ 32))
