-- The sums of ids over any list of masks that share no digit: a commutative group on the ids without stray digits.
-- Assumes nothing.
use Rattle.std.proofs.Common.{◌≡◌, ℕ, zero, suc, ◌+◌, ◌-◌, ◌*◌, ◌/◌, ◌%◌, ◌^◌, ◌<◌, Bool, true, false, not, T, leb, List, [], ◌∷◌, sym, refl, ap, ◌∙◌, ap₂, lt_of_lt_of_le, add-zero, le_of_lt, add_assoc, mod-eq_of_lt, add-sub_of_le, add_comm, pow-suc, arith, leb→le, pow_pos, pow_mono}
use Rattle.std.proofs.Math.Nat.{mod-one, zero-mod, mod-mod, mod_self, mod-add-mod, add-mod-mod, add-mod}
use Rattle.std.proofs.Math.Arith.{mod-mul}
use Rattle.std.specs.Int.Bits.{bit_and, bit_or, or_mod, or_zero_r, and_comm, and_zero_r}
use Rattle.packing.specs.Mask.{Mask, num, count, coord, place, hd, tl, coords, packed, wrapped, sums, negs, low, below, sum_of, minus, whole}
use Rattle.packing.proofs.Sum.{and_set, and_clear}
use Rattle.packing.proofs.Linear.{both, both_left, both_right, and_or, coord_or, coord_zero}

-- ---- masks that share no digit, by a test that computes

unfoldable pub apart : Mask → Mask → Bool
apart [] m = true
apart (a ∷ l) [] = true
apart (true ∷ l) (b ∷ m) = both (not b) (apart l m)
apart (false ∷ l) (b ∷ m) = apart l m

unfoldable pub from_all : Mask → List Mask → Bool
from_all m [] = true
from_all m (n ∷ ms) = both (apart m n) (both (apart n m) (from_all m ms))

unfoldable pub disjoint : List Mask → Bool
disjoint [] = true
disjoint (m ∷ ms) = both (from_all m ms) (disjoint ms)

-- ---- one mask

pub coord_place : (m : Mask) (c : ℕ) → coord m (place m c) ≡ c % 2 ^ count m
unfolding coord place count
coord_place [] c = sym (mod-one c)
coord_place (true ∷ m) c =
    let h : (place m (c / 2) * 2 + c % 2) / 2 ≡ place m (c / 2) = omega arith in
    let l : (place m (c / 2) * 2 + c % 2) % 2 ≡ c % 2 = omega arith in
    ap₂ (λ (x y : ℕ). x * 2 + y) (ap (coord m) h ∙ coord_place m (c / 2)) l
    ∙ sym (ap (λ (x : ℕ). c % x) (pow-suc 2 (count m)) ∙ mod-mul c (pow_pos (count m)) (pow_pos 1))
coord_place (false ∷ m) c =
    let h : place m c * 2 / 2 ≡ place m c = omega arith in
    ap (coord m) h ∙ coord_place m c

pub place_coord : (m : Mask) (i : ℕ) → place m (coord m i) ≡ bit_and i (num m)
unfolding coord place num
place_coord [] i = sym (and_zero_r i)
place_coord (true ∷ m) i =
    let h : (coord m (i / 2) * 2 + i % 2) / 2 ≡ coord m (i / 2) = omega arith in
    let l : (coord m (i / 2) * 2 + i % 2) % 2 ≡ i % 2 = omega arith in
    ap₂ (λ (x y : ℕ). x * 2 + y) (ap (place m) h ∙ place_coord m (i / 2)) l ∙ sym (and_set i (num m))
place_coord (false ∷ m) i = ap (λ (x : ℕ). x * 2) (place_coord m (i / 2)) ∙ sym (and_clear i (num m))

pub coord_lt : (m : Mask) (i : ℕ) → coord m i < 2 ^ count m
unfolding coord count
coord_lt [] i = omega arith
coord_lt (true ∷ m) i = omega (arith, coord_lt m (i / 2), pow-suc 2 (count m))
coord_lt (false ∷ m) i = coord_lt m (i / 2)

-- ---- two masks

pub other : (l m : Mask) → T (apart l m) → (c : ℕ) → coord l (place m c) ≡ 0
unfolding coord place apart
other [] m t c = refl
other (true ∷ l) [] t c = ap (λ (x : ℕ). x * 2 + 0) (coord_zero l)
other (false ∷ l) [] t c = coord_zero l
other (true ∷ l) (true ∷ m) t c = absurd t
other (true ∷ l) (false ∷ m) t c =
    let h : place m c * 2 / 2 ≡ place m c = omega arith in
    let d : place m c * 2 % 2 ≡ 0 = omega arith in
    ap₂ (λ (x y : ℕ). x * 2 + y) (ap (coord l) h ∙ other l m t c) d
other (false ∷ l) (true ∷ m) t c =
    let h : (place m (c / 2) * 2 + c % 2) / 2 ≡ place m (c / 2) = omega arith in
    ap (coord l) h ∙ other l m t (c / 2)
other (false ∷ l) (false ∷ m) t c =
    let h : place m c * 2 / 2 ≡ place m c = omega arith in
    ap (coord l) h ∙ other l m t c

-- ---- a list of masks

-- a mask reads nothing of the others
none_there : (m : Mask) (ms : List Mask) → T (from_all m ms) → (cs : List ℕ) → coord m (packed ms cs) ≡ 0
unfolding packed from_all
none_there m [] t cs = coord_zero m
none_there m (n ∷ ms) t cs =
    let u : T (both (apart n m) (from_all m ms)) = both_right (apart m n) (both (apart n m) (from_all m ms)) t in
    coord_or m (place n (hd cs)) (packed ms (tl cs))
    ∙ ap₂ bit_or (other m n (both_left (apart m n) (both (apart n m) (from_all m ms)) t) (hd cs)) (none_there m ms (both_right (apart n m) (from_all m ms) u) (tl cs))

-- nor the others of it
skip : (m : Mask) (ms : List Mask) → T (from_all m ms) → (c r : ℕ) → coords ms (bit_or (place m c) r) ≡ coords ms r
unfolding coords from_all
skip m [] t c r = refl
skip m (n ∷ ms) t c r =
    let u : T (both (apart n m) (from_all m ms)) = both_right (apart m n) (both (apart n m) (from_all m ms)) t in
    ap₂ ◌∷◌ (coord_or n (place m c) r ∙ ap (λ (x : ℕ). bit_or x (coord n r)) (other n m (both_left (apart n m) (from_all m ms) u) c))
    (skip m ms (both_right (apart n m) (from_all m ms) u) c r)

-- what is packed is read back
pub back : (ms : List Mask) → T (disjoint ms) → (cs : List ℕ) → coords ms (packed ms cs) ≡ wrapped ms cs
unfolding coords packed wrapped disjoint
back [] t cs = refl
back (m ∷ ms) t cs =
    let a : T (from_all m ms) = both_left (from_all m ms) (disjoint ms) t in
    ap₂ ◌∷◌
    (coord_or m (place m (hd cs)) (packed ms (tl cs)) ∙ ap₂ bit_or (coord_place m (hd cs)) (none_there m ms a (tl cs)) ∙ or_zero_r (hd cs % 2 ^ count m))
    (skip m ms a (hd cs) (packed ms (tl cs)) ∙ back ms (both_right (from_all m ms) (disjoint ms) t) (tl cs))

-- what is read is packed again, without stray digits
pub again : (ms : List Mask) (i : ℕ) → packed ms (coords ms i) ≡ bit_and i (whole ms)
unfolding packed coords whole
again [] i = sym (and_zero_r i)
again (m ∷ ms) i =
    ap₂ bit_or (place_coord m i ∙ and_comm i (num m)) (again ms i ∙ and_comm i (whole ms))
    ∙ sym (and_or (num m) (whole ms) i) ∙ and_comm (bit_or (num m) (whole ms)) i

-- ---- sums of coordinates

sums_comm : (ms : List Mask) (a b : List ℕ) → sums ms a b ≡ sums ms b a
unfolding sums
sums_comm [] a b = refl
sums_comm (m ∷ ms) a b = ap₂ ◌∷◌ (ap (λ (x : ℕ). x % 2 ^ count m) (add_comm (hd a) (hd b))) (sums_comm ms (tl a) (tl b))

sums_assoc : (ms : List Mask) (a b c : List ℕ) → sums ms (sums ms a b) c ≡ sums ms a (sums ms b c)
unfolding sums
sums_assoc [] a b c = refl
sums_assoc (m ∷ ms) a b c =
    let n : ℕ = 2 ^ count m in
    ap₂ ◌∷◌
    (mod-add-mod (hd a + hd b) n (hd c) ∙ ap (λ (x : ℕ). x % n) (add_assoc (hd a) (hd b) (hd c)) ∙ sym (add-mod-mod (hd a) (hd b + hd c) n))
    (sums_assoc ms (tl a) (tl b) (tl c))

wrapped_sums : (ms : List Mask) (a b : List ℕ) → wrapped ms (sums ms a b) ≡ sums ms a b
unfolding wrapped sums
wrapped_sums [] a b = refl
wrapped_sums (m ∷ ms) a b = ap₂ ◌∷◌ (mod-mod (hd a + hd b) (2 ^ count m)) (wrapped_sums ms (tl a) (tl b))

wrapped_coords : (ms : List Mask) (i : ℕ) → wrapped ms (coords ms i) ≡ coords ms i
unfolding wrapped coords
wrapped_coords [] i = refl
wrapped_coords (m ∷ ms) i = ap₂ ◌∷◌ (mod-eq_of_lt (coord_lt m i)) (wrapped_coords ms i)

pub sums_wrapped : (ms : List Mask) (a b : List ℕ) → sums ms (wrapped ms a) (wrapped ms b) ≡ sums ms a b
unfolding wrapped sums
sums_wrapped [] a b = refl
sums_wrapped (m ∷ ms) a b = ap₂ ◌∷◌ (sym (add-mod (hd a) (hd b) (2 ^ count m))) (sums_wrapped ms (tl a) (tl b))

sums_zero : (ms : List Mask) (i : ℕ) → sums ms (coords ms i) (coords ms 0) ≡ coords ms i
unfolding sums coords
sums_zero [] i = refl
sums_zero (m ∷ ms) i =
    ap₂ ◌∷◌ (ap (λ (x : ℕ). x % 2 ^ count m) (ap (λ (x : ℕ). coord m i + x) (coord_zero m) ∙ add-zero (coord m i)) ∙ mod-eq_of_lt (coord_lt m i))
    (sums_zero ms i)

sums_negs : (ms : List Mask) (i : ℕ) → sums ms (coords ms i) (wrapped ms (negs ms (coords ms i))) ≡ coords ms 0
unfolding sums wrapped negs coords
sums_negs [] i = refl
sums_negs (m ∷ ms) i =
    let n : ℕ = 2 ^ count m in
    ap₂ ◌∷◌
    (add-mod-mod (coord m i) (n - coord m i) n ∙ ap (λ (x : ℕ). x % n) (add-sub_of_le (le_of_lt (coord_lt m i))) ∙ mod_self n ∙ sym (coord_zero m))
    (sums_negs ms i)

-- ---- sums of ids

-- the laws: a commutative group on the ids without stray digits, i with `bit_and i (whole ms) ≡ i`
pub record Sums (ms : List Mask) : Type 0 where
  pub reads : (i j : ℕ) → coords ms (sum_of ms i j) ≡ sums ms (coords ms i) (coords ms j)
  pub kept : (i : ℕ) → coords ms (bit_and i (whole ms)) ≡ coords ms i
  pub comm : (i j : ℕ) → sum_of ms i j ≡ sum_of ms j i
  pub assoc : (i j k : ℕ) → sum_of ms (sum_of ms i j) k ≡ sum_of ms i (sum_of ms j k)
  pub neutral : (i : ℕ) → sum_of ms i 0 ≡ bit_and i (whole ms)
  pub inverse : (i : ℕ) → sum_of ms i (minus ms i) ≡ 0
  pub stray : (i j : ℕ) → sum_of ms (bit_and i (whole ms)) (bit_and j (whole ms)) ≡ sum_of ms i j
  pub clean : (i j : ℕ) → bit_and (sum_of ms i j) (whole ms) ≡ sum_of ms i j

pub sums_of : (ms : List Mask) → T (disjoint ms) → Sums ms
unfolding sum_of minus
sums_of ms t =
    let put : List ℕ → List ℕ → ℕ = λ a b. packed ms (sums ms a b) in
    let read : (i j : ℕ) → coords ms (sum_of ms i j) ≡ sums ms (coords ms i) (coords ms j) =
    λ i j. back ms t (sums ms (coords ms i) (coords ms j)) ∙ wrapped_sums ms (coords ms i) (coords ms j) in
    let kept : (i : ℕ) → coords ms (bit_and i (whole ms)) ≡ coords ms i =
    λ i. ap (coords ms) (sym (again ms i)) ∙ back ms t (coords ms i) ∙ wrapped_coords ms i in
    record {
      reads = read;
      kept = kept;
      comm = λ i j. ap (packed ms) (sums_comm ms (coords ms i) (coords ms j));
      assoc =
          λ i j k. ap (λ (a : List ℕ). put a (coords ms k)) (read i j)
          ∙ ap (packed ms) (sums_assoc ms (coords ms i) (coords ms j) (coords ms k)) ∙ ap (put (coords ms i)) (sym (read j k));
      neutral = λ i. ap (packed ms) (sums_zero ms i) ∙ again ms i;
      inverse =
          λ i. ap (put (coords ms i)) (back ms t (negs ms (coords ms i)))
          ∙ ap (packed ms) (sums_negs ms i) ∙ again ms 0;
      stray = λ i j. ap₂ put (kept i) (kept j);
      clean = λ i j. sym (again ms (sum_of ms i j)) ∙ ap (packed ms) (read i j);
    }

-- a coordinate fits as many digits as its mask has, and so a word of k
pub coord_fits : (k : ℕ) (m : Mask) (i : ℕ) → T (leb (count m) k) → coord m i < 2 ^ k
coord_fits k m i t = lt_of_lt_of_le (coord_lt m i) (pow_mono (leb→le (count m) k t))

-- ---- masks cut off at a digit

place_none : (m : Mask) (c : ℕ) → place (low 0 m) c ≡ 0
unfolding place low
place_none [] c = refl
place_none (b ∷ m) c = ap (λ (x : ℕ). x * 2) (place_none m c)

coord_none : (m : Mask) (i : ℕ) → coord (low 0 m) i ≡ 0
unfolding coord low
coord_none [] i = refl
coord_none (b ∷ m) i = coord_none m (i / 2)

mod_digit : (n k : ℕ) → n % 2 ^ suc k ≡ (n / 2 % 2 ^ k) * 2 + n % 2
mod_digit n k = ap (λ (x : ℕ). n % x) (pow-suc 2 k) ∙ mod-mul n (pow_pos k) (pow_pos 1)

place_low : (k : ℕ) (m : Mask) (c : ℕ) → place m c % 2 ^ k ≡ place (low k m) c
unfolding place low
place_low zero m c = mod-one (place m c) ∙ sym (place_none m c)
place_low (suc k) [] c = zero-mod (2 ^ suc k)
place_low (suc k) (true ∷ m) c =
    let h : (place m (c / 2) * 2 + c % 2) / 2 ≡ place m (c / 2) = omega arith in
    let l : (place m (c / 2) * 2 + c % 2) % 2 ≡ c % 2 = omega arith in
    mod_digit (place m (c / 2) * 2 + c % 2) k ∙ ap₂ (λ (x y : ℕ). x * 2 + y) (ap (λ (x : ℕ). x % 2 ^ k) h ∙ place_low k m (c / 2)) l
place_low (suc k) (false ∷ m) c =
    let h : place m c * 2 / 2 ≡ place m c = omega arith in
    let l : place (low k m) c * 2 + place m c * 2 % 2 ≡ place (low k m) c * 2 = omega arith in
    mod_digit (place m c * 2) k ∙ ap (λ (x : ℕ). x * 2 + place m c * 2 % 2) (ap (λ (x : ℕ). x % 2 ^ k) h ∙ place_low k m c) ∙ l

coord_low : (k : ℕ) (m : Mask) (i : ℕ) → coord (low k m) (i % 2 ^ k) ≡ coord (low k m) i
unfolding coord low
coord_low zero m i = coord_none m (i % 1) ∙ sym (coord_none m i)
coord_low (suc k) [] i = refl
coord_low (suc k) (true ∷ m) i =
    let h : i % 2 ^ suc k / 2 ≡ i / 2 % 2 ^ k = omega (arith, mod_digit i k) in
    let l : i % 2 ^ suc k % 2 ≡ i % 2 = omega (arith, mod_digit i k) in
    ap₂ (λ (x y : ℕ). x * 2 + y) (ap (coord (low k m)) h ∙ coord_low k m (i / 2)) l
coord_low (suc k) (false ∷ m) i =
    let h : i % 2 ^ suc k / 2 ≡ i / 2 % 2 ^ k = omega (arith, mod_digit i k) in
    ap (coord (low k m)) h ∙ coord_low k m (i / 2)

packed_below : (k : ℕ) (ms : List Mask) (cs : List ℕ) → packed ms cs % 2 ^ k ≡ packed (below k ms) cs
unfolding packed below
packed_below k [] cs = zero-mod (2 ^ k)
packed_below k (m ∷ ms) cs =
    or_mod (place m (hd cs)) (packed ms (tl cs)) k ∙ ap₂ bit_or (place_low k m (hd cs)) (packed_below k ms (tl cs))

coords_below : (k : ℕ) (ms : List Mask) (i : ℕ) → coords (below k ms) (i % 2 ^ k) ≡ coords (below k ms) i
unfolding coords below
coords_below k [] i = refl
coords_below k (m ∷ ms) i = ap₂ ◌∷◌ (coord_low k m i) (coords_below k ms i)

-- what masks that are cut off read of an id that was packed by the whole ones
pub back_below : (k : ℕ) (ms : List Mask) → T (disjoint (below k ms)) → (cs : List ℕ) → coords (below k ms) (packed ms cs) ≡ wrapped (below k ms) cs
back_below k ms t cs =
    sym (coords_below k ms (packed ms cs)) ∙ ap (coords (below k ms)) (packed_below k ms cs) ∙ back (below k ms) t cs
