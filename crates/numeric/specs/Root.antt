-- Document 01, "Float rules": the root, over whole numbers. Definitions only.
use Rattle.std.specs.Prelude.{ℕ, zero, suc, ◌+◌, ◌-◌, ◌*◌, ◌/◌, ◌^◌, false, cond, ◌==◌, nat_le, nat_lt, Float}
use Rattle.std.specs.Float.{nan, inf, fin, binary32}
use Rattle.std.specs.Float.Ieee.{up, down, size, units}

-- r + 1 where its square is at most n, and r otherwise
abbrev pub one_more : ℕ → ℕ → ℕ
one_more n r = cond (nat_le ((r + 1) * (r + 1)) n) (r + 1) r

-- The whole part of the root of n, for an n of at most k digits at base 4: twice that of n / 4, or one more.
unfoldable pub root_digits : ℕ → ℕ → ℕ
root_digits zero n = 0
root_digits (suc k) n = one_more n (2 * root_digits k (n / 4))

-- The whole part of the root of n: the largest r with r * r ≤ n.
unfoldable pub whole_root : ℕ → ℕ
unfolding root_digits size
whole_root n = root_digits (size n) n

-- q, or q + 1 where the root of w is more than q + 1 / 2 times 2 ^ k
abbrev pub nearer_root : ℕ → ℕ → ℕ → ℕ
nearer_root w q k = cond (nat_lt ((2 * q + 1) * 2 ^ k * ((2 * q + 1) * 2 ^ k)) (4 * w)) (q + 1) q

-- The f32 nearest to the root of w, in units of 2 ^ -149, the smallest f32: of the root's whole part the 24 leading digits, q, or q + 1, times 2 ^ k units.
unfoldable pub units_root : ℕ → Float
unfolding whole_root size units
units_root w =
    let f = whole_root w in
    let k = size f - 24 in
    units binary32 false (nearer_root w (f / 2 ^ k) k) k

-- Root: the f32 nearest the exact root; +infinity and both zeros answer themselves, NaN and other negatives NaN.
-- x is u * 2 ^ -149, so its root is that of u * 2 ^ 149 in units of 2 ^ -149.
unfoldable pub root_of : Float → Float
unfolding units_root
root_of nan = nan
root_of (inf s) = cond s nan (inf s)
root_of (fin s m e) = cond (m == 0) (fin s m e) (cond s nan (units_root (m * up e * 2 ^ 149 / down e * 2 ^ 149)))
