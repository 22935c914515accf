-- The numbers that patterns stand for, and the operators and constants under short names. Definitions only.
use Rattle.std.specs.Prelude.{ℕ, zero, suc, ◌+◌, ◌*◌, ◌/◌, ◌%◌, ◌^◌, from_bits, Float}
use Rattle.std.specs.Float.{binary32}
use Rattle.std.specs.Float.Ieee.{add, sub, mul, div}

-- Each operation is rounded once, to an f32.
infixl 75 ◌⊕◌ ◌⊖◌
infixl 80 ◌⊗◌ ◌⊘◌
abbrev pub ◌⊕◌ : Float → Float → Float
a ⊕ b = add binary32 a b

abbrev pub ◌⊖◌ : Float → Float → Float
a ⊖ b = sub binary32 a b

abbrev pub ◌⊗◌ : Float → Float → Float
a ⊗ b = mul binary32 a b

abbrev pub ◌⊘◌ : Float → Float → Float
a ⊘ b = div binary32 a b

-- A square is one product.
abbrev pub square : Float → Float
square a = a ⊗ a

-- Constants, as f32 patterns; `Values` says which numbers they are.
abbrev pub none : Float
none = from_bits binary32 0

abbrev pub half : Float
half = from_bits binary32 0x3f000000

abbrev pub three_quarters : Float
three_quarters = from_bits binary32 0x3f400000

abbrev pub one : Float
one = from_bits binary32 0x3f800000

abbrev pub three_halves : Float
three_halves = from_bits binary32 0x3fc00000

abbrev pub two : Float
two = from_bits binary32 0x40000000

abbrev pub four : Float
four = from_bits binary32 0x40800000

-- How many 2 ^ -149, the smallest f32, the exponent's field x and the digits t stand for.
abbrev pub field_units : ℕ → ℕ → ℕ
field_units zero t = t
field_units (suc x) t = (8388608 + t) * 2 ^ x

-- The same of a pattern without its sign.
abbrev pub pattern_units : ℕ → ℕ
pattern_units a = field_units (a / 8388608) (a % 8388608)
