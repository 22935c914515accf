-- What is written into a lent slice. Assumes nothing.
use Rattle.std.specs.Prelude.{ℕ, zero, suc, ◌+◌, ◌/◌, ◌%◌, cond, List, [], ◌∷◌, ◌++◌, length, take, drop, leb, ltb}

-- the byte of a digit below 16: `0` to `9`, then `A` to `F`
unfoldable pub glyph_of : ℕ → ℕ
glyph_of d = cond (ltb d 10) (48 + d) (55 + d)

-- the last k digits of n in a base, the most significant first
unfoldable pub digits_of : ℕ → ℕ → ℕ → List ℕ
digits_of base zero n = []
digits_of base (suc k) n = digits_of base k (n / base) ++ (glyph_of (n % base) ∷ [])

-- how many decimal digits n has; `most` bounds the count, and n itself is bound enough
unfoldable pub places_of : ℕ → ℕ → ℕ
places_of zero n = 1
places_of (suc most) n = cond (ltb n 10) 1 (suc (places_of most (n / 10)))

-- n as a plain decimal
unfoldable pub text_of : ℕ → List ℕ
text_of n = digits_of 10 (places_of n n) n

-- a list with xs at a place, where xs fits there, and as it was where it does not
unfoldable pub put_at : List ℕ → ℕ → List ℕ → List ℕ
put_at out at xs = cond (leb (at + length xs) (length out)) (take at out ++ (xs ++ drop (at + length xs) out)) out

-- the place after xs, where xs fits, and the same place where it does not
unfoldable pub place_after : List ℕ → ℕ → List ℕ → ℕ
place_after out at xs = cond (leb (at + length xs) (length out)) (at + length xs) at
