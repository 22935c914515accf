-- What crosses the boundary for each case of an answer that is an enum. Definitions only.
use Rattle.std.specs.Prelude.{ℕ, None, Option, Some}

-- whether it was found: 1 or 0
abbrev pub found_flag : Option ℕ → ℕ
found_flag (Some k) = 1
found_flag None = 0

-- its place, or 0
abbrev pub found_place : Option ℕ → ℕ
found_place (Some k) = k
found_place None = 0
