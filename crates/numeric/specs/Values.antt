-- The definitions on document 01's values, and on others that are easy to get wrong; and numeric's rows of "Values to prove together". Assumes nothing.
use Rattle.std.specs.Prelude.{◌≡◌, ℕ, true, false, [], ◌∷◌, map, pos, negsuc, refl, Float}
use Rattle.std.specs.Float.{nan, inf, fin, binary32}
use Rattle.std.specs.Float.Ieee.{round, neg, of_bits, to_bits, of_int, to_unsigned, add, mul, sub, div, lt, eq, is_nan}
use Rattle.numeric.specs.Bits.{none, half, three_quarters, one, three_halves, two, four}
use Rattle.numeric.specs.Round.{round_away, cast_u32, nearest_to}
use Rattle.numeric.specs.Root.{whole_root, root_of}
use Rattle.numeric.specs.Scalar.{inverse, maximum, magnitude, sign_of}
use Rattle.numeric.specs.Axes.{identity, outer, matrix_product}
use Rattle.numeric.specs.Kernel.{inv_d, eval_all, eval, eval_derivative, precompute_weights, stencil_with_dir, stencil_gradient_with_dir}

-- the f32 with a pattern, and the pattern of one
abbrev f32 : ℕ → Float
f32 b = of_bits binary32 b

abbrev bits : Float → ℕ
bits x = to_bits binary32 x

-- ---- the constants: `fin s m e` is m * 2 ^ e, negative where s is true

constants : (none ≡ fin false 0 (pos 0)) × (half ≡ fin false 1 (negsuc 0)) × (three_quarters ≡ fin false 3 (negsuc 1)) × (one ≡ fin false 1 (pos 0))
    × (three_halves ≡ fin false 3 (negsuc 0)) × (two ≡ fin false 1 (pos 1)) × (four ≡ fin false 1 (pos 2))
unfolding of_bits
constants = (refl, refl, refl, refl, refl, refl, refl)

-- ---- rounding

-- -2.5 rounds to -3, 0.5 to 1, -0.25 to -0, the f32 just below 0.5 to 0, and 8388607.5 to 8388608
rounded : (round_away (f32 0xc0200000) ≡ f32 0xc0400000) × (round_away half ≡ one) × (round_away (f32 0xbe800000) ≡ f32 0x80000000)
    × (round_away (f32 0x3effffff) ≡ none) × (round_away (f32 0x4affffff) ≡ f32 0x4b000000)
unfolding round_away round of_bits
rounded = (refl, refl, refl, refl, refl)

-- the largest f32, the infinities and NaN answer themselves
rounded_self : (round_away (f32 0x7f7fffff) ≡ f32 0x7f7fffff) × (round_away (inf true) ≡ inf true) × (round_away (f32 0x7fc00001) ≡ nan)
unfolding round_away round of_bits
rounded_self = (refl, refl, refl)

-- NaN and negatives give 0, large gives 4294967295; 2.5 gives 2 and 2 ^ 31 itself
cast : (cast_u32 nan ≡ 0) × (cast_u32 (neg one) ≡ 0) × (cast_u32 (inf true) ≡ 0) × (cast_u32 (f32 0x4f800000) ≡ 4294967295) × (cast_u32 (inf false) ≡ 4294967295) × (cast_u32 (f32 0x40200000) ≡ 2)
    × (cast_u32 (f32 0x4f000000) ≡ 2147483648)
unfolding to_unsigned neg of_bits
cast = (refl, refl, refl, refl, refl, refl, refl)

-- 2 ^ 24 + 1 and 2 ^ 24 + 3 lie half way: to the even digit, down to 2 ^ 24 and up to 2 ^ 24 + 4; 2 ^ 32 - 1 goes up to 2 ^ 32
whole : (bits (nearest_to 16777217) ≡ 0x4b800000) × (bits (nearest_to 16777219) ≡ 0x4b800002) × (bits (nearest_to 4294967295) ≡ 0x4f800000)
unfolding of_int round to_bits
whole = (refl, refl, refl)

-- ---- matrices, by rows

-- (1 2; 0 1)·(1 0; 2 1) is (5 2; 2 1), and (1 2)·(2 1 0; 0 0 1) is (2 1 2); (1 2)ᵀ·(2 1) is (2 1; 4 2); the identity of two rows
matrices : (map (map bits) (matrix_product ((one ∷ two ∷ []) ∷ (none ∷ one ∷ []) ∷ []) ((one ∷ none ∷ []) ∷ (two ∷ one ∷ []) ∷ [])) ≡ (0x40a00000 ∷ 0x40000000 ∷ []) ∷ (0x40000000 ∷ 0x3f800000 ∷ []) ∷ [])
    × (map (map bits) (matrix_product ((one ∷ two ∷ []) ∷ []) ((two ∷ one ∷ none ∷ []) ∷ (none ∷ none ∷ one ∷ []) ∷ [])) ≡ (0x40000000 ∷ 0x3f800000 ∷ 0x40000000 ∷ []) ∷ [])
    × (map (map bits) (outer (one ∷ two ∷ []) (two ∷ one ∷ [])) ≡ (0x40000000 ∷ 0x3f800000 ∷ []) ∷ (0x40800000 ∷ 0x40000000 ∷ []) ∷ [])
    × (identity ([] ∷ [] ∷ []) ≡ (one ∷ none ∷ []) ∷ (none ∷ one ∷ []) ∷ [])
unfolding round add mul of_bits to_bits
matrices = (refl, refl, refl, refl)

-- ---- the root

-- of 2, of the smallest f32 and of the largest; 24 is the whole part of 624's
roots : (bits (root_of two) ≡ 0x3fb504f3) × (bits (root_of (f32 1)) ≡ 0x1a3504f3) × (bits (root_of (f32 0x7f7fffff)) ≡ 0x5f7fffff) × (whole_root 624 ≡ 24)
unfolding root_of whole_root of_bits to_bits
roots = (refl, refl, refl, refl)

-- +infinity and both zeros answer themselves, NaN and other negatives NaN
root_self : (root_of (inf false) ≡ inf false) × (root_of none ≡ none) × (root_of (f32 0x80000000) ≡ f32 0x80000000) × (root_of nan ≡ nan) × (root_of (neg one) ≡ nan) × (root_of (inf true) ≡ nan)
unfolding root_of neg of_bits
root_self = (refl, refl, refl, refl, refl, refl)

-- ---- inverse, maximum, size and sign

scalars : (inverse (f32 0x80000000) ≡ none) × (inverse four ≡ f32 0x3e800000) × (maximum nan one ≡ one) × (maximum one nan ≡ one) × (maximum (f32 0x80000000) (f32 0x80000000) ≡ none)
    × (maximum none (f32 0x80000000) ≡ none) × (maximum one two ≡ two) × (magnitude (f32 0x80000000) ≡ none) × (sign_of none ≡ one) × (sign_of (f32 0x80000000) ≡ neg one)
unfolding inverse maximum magnitude sign_of neg div round eq lt is_nan of_bits
scalars = (refl, refl, refl, refl, refl, refl, refl, refl, refl, refl)

-- ---- the kernel

-- at 0, 1/2, 1, 3/2 and NaN
kernel : map eval (none ∷ half ∷ one ∷ three_halves ∷ nan ∷ []) ≡ three_quarters ∷ half ∷ f32 0x3e000000 ∷ none ∷ none ∷ []
unfolding eval sub mul lt of_bits
kernel = refl

-- at +0, -0, 1/4, -1, 3/2 and NaN
derivative : map eval_derivative (none ∷ f32 0x80000000 ∷ f32 0x3e800000 ∷ neg one ∷ three_halves ∷ nan ∷ [])
    ≡ f32 0x80000000 ∷ none ∷ neg half ∷ half ∷ none ∷ none ∷ []
unfolding eval_derivative sub mul lt neg of_bits
derivative = refl

-- of a node that lies (1, 0) from a particle, h = 1, in the plane and, with (1, 0, 0), in space
plane : (stencil_with_dir (one ∷ none ∷ []) one ≡ f32 0x3dc00000) × (stencil_gradient_with_dir (one ∷ none ∷ []) one ≡ f32 0x3ec00000 ∷ none ∷ [])
    × (precompute_weights (neg one ∷ neg one ∷ []) one ≡ eval_all one ∷ eval_all one ∷ []) × (inv_d half ≡ f32 0x41800000)
unfolding stencil_with_dir stencil_gradient_with_dir precompute_weights eval eval_derivative eval_all inv_d sub mul div lt neg of_bits
plane = (refl, refl, refl, refl)

space : stencil_with_dir (one ∷ none ∷ none ∷ []) one ≡ f32 0x3d900000
unfolding stencil_with_dir eval sub mul div lt neg of_bits
space = refl

-- ---- the rows of the table

pub record Values : Type 0 where
  -- `eval_all(1)` 0.125, 0.75, 0.125; 2.5 rounds to 3; root of 2.25 is 1.5
  pub weights : eval_all (fin false 1 (pos 0)) ≡ fin false 1 (negsuc 2) ∷ fin false 3 (negsuc 1) ∷ fin false 1 (negsuc 2) ∷ []
  pub rounds : round_away (fin false 5 (negsuc 0)) ≡ fin false 3 (pos 0)
  pub root : root_of (fin false 9 (negsuc 1)) ≡ fin false 3 (negsuc 0)

pub values : Values
unfolding eval_all round_away root_of round sub mul of_bits
values = record { weights = refl; rounds = refl; root = refl }
