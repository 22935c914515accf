-- What `round_away` and `root_of` have to mean, in whole numbers alone. `proofs/Meaning.antt` proves it of every f32. Definitions only.
-- `HasValue x s a c` says that x is finite, has the sign s, true below zero, and is a / c in size; `fits binary32 x` that x is an f32.
use Rattle.std.specs.Prelude.{◌≡◌, ℕ, ◌+◌, ◌-◌, ◌*◌, ◌^◌, ◌<◌, ◌≤◌, Bool, true, false, cond, not, T, from_bits, is_nan, to_bits, Float}
use Rattle.std.specs.Bool.{beq}
use Rattle.std.specs.Float.{binary32}
use Rattle.std.specs.Float.Ieee.{fits}
use Rattle.std.specs.Float.Ieee.Exact.{HasValue}
use Rattle.numeric.specs.Round.{round_away}
use Rattle.numeric.specs.Root.{root_of}

-- how far ±a is from ±b
abbrev pub apart : Bool → ℕ → Bool → ℕ → ℕ
apart s a t b = cond (beq s t) ((a - b) + (b - a)) (a + b)

-- "Nearest whole number, halves away from zero, x's sign on a zero", of an x that is ±n / d. Distances are counted in parts of 1 / d.
pub record NearestWhole (s : Bool) (n d : ℕ) (y : Float) : Type 0 where
  pub whole : ℕ
  pub is : HasValue y s whole 1
  -- no whole number is nearer, and one as near is no further from zero
  pub nearest : (t : Bool) (j : ℕ) → apart s n s (whole * d) ≤ apart s n t (j * d)
  pub away : (t : Bool) (j : ℕ) → apart s n t (j * d) ≡ apart s n s (whole * d) → j ≤ whole

-- "The f32 nearest the exact root", of an x that is u times 2 ^ -149: the middle of y and any other f32 z lies beyond the root, so the root is nearer to y. In units of 2 ^ -149
-- twice that middle is the sum of y's units and z's, and its square is compared with four times x's. Where z is below zero, the middle is below zero or their difference's half.
pub record NearestRoot (u : ℕ) (y : Float) : Type 0 where
  pub units : ℕ
  pub is : HasValue y false units (2 ^ 149)
  pub above : (z : Float) (w : ℕ) → T (fits binary32 z) → HasValue z false w (2 ^ 149) → units < w → 4 * (u * 2 ^ 149) < (units + w) * (units + w)
  pub below : (z : Float) (w : ℕ) → T (fits binary32 z) → HasValue z false w (2 ^ 149) → w < units → (units + w) * (units + w) < 4 * (u * 2 ^ 149)
  pub negative : (z : Float) (w : ℕ) → T (fits binary32 z) → HasValue z true w (2 ^ 149) → (units - w) * (units - w) < 4 * (u * 2 ^ 149)

pub record Meaning : Type 1 where
  -- every finite f32 is a number of 2 ^ -149
  pub counted : (x : Float) (s : Bool) (n d : ℕ) → T (fits binary32 x) → HasValue x s n d → (u : ℕ) × HasValue x s u (2 ^ 149)
  pub rounds : (x : Float) (s : Bool) (n d : ℕ) → T (fits binary32 x) → 0 < d → HasValue x s n d → NearestWhole s n d (round_away x)
  pub rounded : (x y : Float) (s : Bool) (n d : ℕ) → T (fits binary32 x) → T (fits binary32 y) → 0 < d → HasValue x s n d → NearestWhole s n d y → y ≡ round_away x
  pub roots : (x : Float) (u : ℕ) → T (fits binary32 x) → 0 < u → HasValue x false u (2 ^ 149) → NearestRoot u (root_of x)
  pub rooted : (x y : Float) (u : ℕ) → T (fits binary32 x) → T (fits binary32 y) → 0 < u → HasValue x false u (2 ^ 149) → NearestRoot u y → y ≡ root_of x
  -- an f32 is its pattern, and a pattern that is no NaN's is its f32's
  pub read : (x : Float) → T (fits binary32 x) → from_bits binary32 (to_bits binary32 x) ≡ x
  pub written : (b : ℕ) → b < 2 ^ 32 → T (not (is_nan (from_bits binary32 b))) → to_bits binary32 (from_bits binary32 b) ≡ b
