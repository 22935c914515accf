-- Document 01, "Float rules": the kernel, each operation rounded once, in the order written. Vectors are lists, an entry an axis, so that the plane and space share
-- each definition. Definitions only.
use Rattle.std.specs.Prelude.{cond, List, [], ◌∷◌, map, Float}
use Rattle.std.specs.Float.Ieee.{lt, neg}
use Rattle.numeric.specs.Bits.{◌⊕◌, ◌⊖◌, ◌⊗◌, ◌⊘◌, square, none, half, three_quarters, one, three_halves, two, four}
use Rattle.numeric.specs.Scalar.{magnitude, sign_of}

unfoldable pub inv_d : Float → Float
inv_d h = four ⊘ (h ⊗ h)

-- 0.5(1.5-t)², 0.75-(t-1)², 0.5(t-0.5)²
unfoldable pub eval_all : Float → List Float
eval_all t = half ⊗ square (three_halves ⊖ t) ∷ three_quarters ⊖ square (t ⊖ one) ∷ half ⊗ square (t ⊖ half) ∷ []

-- With a = |x|: 3/4 - a² below 1/2, 0.5(3/2-a)² below 3/2; 0 from there on and at NaN.
unfoldable pub eval : Float → Float
unfolding magnitude
eval x =
    let a = magnitude x in
    cond (lt a half) (three_quarters ⊖ square a)
    (cond (lt a three_halves) (half ⊗ square (three_halves ⊖ a))
    none)

-- (-2·sign)·a, then (-sign)·(3/2-a), in the same ranges.
unfoldable pub eval_derivative : Float → Float
unfolding magnitude sign_of
eval_derivative x =
    let a = magnitude x in
    cond (lt a half) (neg two ⊗ sign_of x ⊗ a)
    (cond (lt a three_halves) (neg (sign_of x) ⊗ (three_halves ⊖ a))
    none)

-- ---- over the axes

-- x times each of a list, left to right
abbrev pub times : Float → List Float → Float
times x [] = x
times x (y ∷ ys) = times (x ⊗ y) ys

-- the product of a list, left to right
abbrev pub product : List Float → Float
product [] = one
product (x ∷ xs) = times x xs

-- s plus the products of two lists, left to right
abbrev pub plus_products : Float → List Float → List Float → Float
plus_products s [] ys = s
plus_products s (x ∷ xs) [] = s
plus_products s (x ∷ xs) (y ∷ ys) = plus_products (s ⊕ x ⊗ y) xs ys

-- Dot and matrix products add left to right.
abbrev pub dot : List Float → List Float → Float
dot [] ys = none
dot (x ∷ xs) [] = none
dot (x ∷ xs) (y ∷ ys) = plus_products (x ⊗ y) xs ys

-- the vector from one point to another, axis by axis
abbrev pub minus_all : List Float → List Float → List Float
minus_all [] ys = []
minus_all (x ∷ xs) [] = []
minus_all (x ∷ xs) (y ∷ ys) = x ⊖ y ∷ minus_all xs ys

unfoldable pub precompute_weights : List Float → Float → List (List Float)
precompute_weights ds h = map (λ (d : Float). eval_all (neg d ⊘ h)) ds

unfoldable pub stencil_with_dir : List Float → Float → Float
stencil_with_dir ds h = product (map (λ (d : Float). eval (neg d ⊘ h)) ds)

unfoldable pub stencil : List Float → List Float → Float → Float
stencil elt particle h = stencil_with_dir (minus_all elt particle) h

-- for each axis, what `eval` answers on each, with `eval_derivative` in its place on that axis
abbrev pub along_each : List Float → List (List Float)
along_each [] = []
along_each (d ∷ ds) = (eval_derivative d ∷ map eval ds) ∷ map (λ (xs : List Float). eval d ∷ xs) (along_each ds)

unfoldable pub stencil_gradient_with_dir : List Float → Float → List Float
stencil_gradient_with_dir ds h =
    let i = one ⊘ h in
    map (times i) (along_each (map (λ (d : Float). neg d ⊗ i) ds))

unfoldable pub stencil_gradient : List Float → List Float → Float → List Float
stencil_gradient elt particle h = stencil_gradient_with_dir (minus_all elt particle) h
