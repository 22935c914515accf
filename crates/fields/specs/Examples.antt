-- The definitions of `Read` and `Write` at work, on bytes: `0` is 48, `A` is 65, a tab is 9. Assumes nothing.
use Rattle.std.specs.Prelude.{ℕ, ◌-◌, ◌^◌, ◌≡◌, refl, true, false, Some, None, [], ◌∷◌, length, pos, negsuc}
use Rattle.std.proofs.Math.Seq.{slice}
use Rattle.fields.specs.Read.{before, place_of, begins_with, digit_of, onward, bounded, number_of, hex_of, decimal_of, read_in, signed_of}
use Rattle.fields.specs.Write.{glyph_of, digits_of, places_of, text_of, put_at, place_after}

-- "0", "10", "00", "", "1A"
decimals :
    (decimal_of (48 ∷ []) ≡ Some 0) × (decimal_of (49 ∷ 48 ∷ []) ≡ Some 10) × (decimal_of (48 ∷ 48 ∷ []) ≡ None) × (decimal_of [] ≡ None)
    × (decimal_of (49 ∷ 65 ∷ []) ≡ None)
unfolding decimal_of number_of bounded onward digit_of
decimals = (refl, refl, refl, refl, refl)

-- "18446744073709551615" and "18446744073709551616"
largest :
    (decimal_of (49 ∷ 56 ∷ 52 ∷ 52 ∷ 54 ∷ 55 ∷ 52 ∷ 52 ∷ 48 ∷ 55 ∷ 51 ∷ 55 ∷ 48 ∷ 57 ∷ 53 ∷ 53 ∷ 49 ∷ 54 ∷ 49 ∷ 53 ∷ []) ≡ Some (2 ^ 64 - 1))
    × (decimal_of (49 ∷ 56 ∷ 52 ∷ 52 ∷ 54 ∷ 55 ∷ 52 ∷ 52 ∷ 48 ∷ 55 ∷ 51 ∷ 55 ∷ 48 ∷ 57 ∷ 53 ∷ 53 ∷ 49 ∷ 54 ∷ 49 ∷ 54 ∷ []) ≡ None)
unfolding decimal_of number_of bounded onward digit_of
largest = (refl, refl)

-- "FF", "0F", "fF", "", and "FF" where three digits are asked for
hexadecimals :
    (hex_of 2 (70 ∷ 70 ∷ []) ≡ Some 255) × (hex_of 2 (48 ∷ 70 ∷ []) ≡ Some 15) × (hex_of 2 (102 ∷ 70 ∷ []) ≡ None) × (hex_of 0 [] ≡ None)
    × (hex_of 3 (70 ∷ 70 ∷ []) ≡ None)
unfolding hex_of number_of bounded onward digit_of
hexadecimals = (refl, refl, refl, refl, refl)

-- "p2", a tab, "7": the operation ends at 2; the field after it, and one that the line does not have
fields :
    (place_of 9 0 (112 ∷ 50 ∷ 9 ∷ 55 ∷ []) ≡ 2) × (place_of 9 3 (112 ∷ 50 ∷ 9 ∷ 55 ∷ []) ≡ 4) × (place_of 9 7 (112 ∷ 50 ∷ 9 ∷ 55 ∷ []) ≡ 4)
    × (read_in decimal_of 3 4 (112 ∷ 50 ∷ 9 ∷ 55 ∷ []) ≡ Some 7) × (read_in decimal_of 3 5 (112 ∷ 50 ∷ 9 ∷ 55 ∷ []) ≡ None)
unfolding place_of before read_in decimal_of number_of bounded onward digit_of
fields = (refl, refl, refl, refl, refl)

-- "#a", "a#", and nothing, which begins with no byte
beginnings : (begins_with 35 (35 ∷ 97 ∷ []) ≡ true) × (begins_with 35 (97 ∷ 35 ∷ []) ≡ false) × (begins_with 35 [] ≡ false)
unfolding begins_with
beginnings = (refl, refl, refl)

signs : (signed_of 1 ≡ pos 1) × (signed_of (2 ^ 32 - 1) ≡ negsuc 0) × (signed_of (2 ^ 31) ≡ negsuc (2 ^ 31 - 1))
unfolding signed_of
signs = (refl, refl, refl)

-- "00FF", "0", "107", and "10" into three bytes, at 1 and at 2
texts :
    (digits_of 16 4 255 ≡ 48 ∷ 48 ∷ 70 ∷ 70 ∷ []) × (text_of 0 ≡ 48 ∷ []) × (text_of 107 ≡ 49 ∷ 48 ∷ 55 ∷ [])
    × (put_at (1 ∷ 2 ∷ 3 ∷ []) 1 (text_of 10) ≡ 1 ∷ 49 ∷ 48 ∷ []) × (place_after (1 ∷ 2 ∷ 3 ∷ []) 1 (text_of 10) ≡ 3)
    × (put_at (1 ∷ 2 ∷ 3 ∷ []) 2 (text_of 10) ≡ 1 ∷ 2 ∷ 3 ∷ []) × (place_after (1 ∷ 2 ∷ 3 ∷ []) 2 (text_of 10) ≡ 2)
unfolding put_at place_after text_of places_of digits_of glyph_of
texts = (refl, refl, refl, refl, refl, refl, refl)

-- "abc" with its part from 1 up to 3 moved to the front, and with one from 2 up to beyond its end
moves :
    (put_at (97 ∷ 98 ∷ 99 ∷ []) 0 (slice 1 3 (97 ∷ 98 ∷ 99 ∷ [])) ≡ 98 ∷ 99 ∷ 99 ∷ [])
    × (put_at (97 ∷ 98 ∷ 99 ∷ []) 0 (slice 2 9 (97 ∷ 98 ∷ 99 ∷ [])) ≡ 99 ∷ 98 ∷ 99 ∷ []) × (length {A = ℕ} (slice 2 9 (97 ∷ 98 ∷ 99 ∷ [])) ≡ 1)
unfolding put_at
moves = (refl, refl, refl)
