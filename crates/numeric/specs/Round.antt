-- Document 01, "Float rules": rounding, the cast, and whole numbers as f32. Definitions only.
use Rattle.std.specs.Prelude.{ℕ, ◌+◌, ◌*◌, ◌/◌, pos, Float}
use Rattle.std.specs.Float.{nan, inf, fin, binary32}
use Rattle.std.specs.Float.Ieee.{up, down, round, to_unsigned, of_int}

-- The whole number nearest to n / d, a half up: n / d + 1 / 2 without its fraction.
abbrev pub nearest_whole : ℕ → ℕ → ℕ
nearest_whole n d = (2 * n + d) / (2 * d)

-- Round: nearest whole number, halves away from zero, x's sign on a zero; infinities and NaN answer themselves.
-- `round binary32 s n 1` is the f32 of the whole number n with the sign s.
unfoldable pub round_away : Float → Float
round_away nan = nan
round_away (inf s) = inf s
round_away (fin s m e) = round binary32 s (nearest_whole (m * up e) (down e)) 1

-- Cast to u32: NaN and negatives give 0, large gives 4294967295; else x without its fraction.
abbrev pub cast_u32 : Float → ℕ
cast_u32 x = to_unsigned 32 x

-- A whole number rounded to f32, ties to even.
abbrev pub nearest_to : ℕ → Float
nearest_to n = of_int binary32 (pos n)
