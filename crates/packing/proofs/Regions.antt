-- Regions and the numbers of their cells, over any list of masks whose axes are cut alike.
-- Assumes nothing.
use Rattle.std.proofs.Common.{◌≡◌, ℕ, zero, suc, ◌+◌, ◌*◌, ◌/◌, ◌%◌, ◌^◌, ◌<◌, ◌≤◌, Bool, true, T, leb, List, [], ◌∷◌, map, length, sym, refl, ap, ◌∙◌, ap₂, ⊎_elim, mod-eq_of_lt, pow-suc, arith, leb→le}
use mathlib.Core.List.Memᴰ
use Rattle.std.proofs.Math.Nat.{mod-one}
use Rattle.std.proofs.Math.Decide.{dec_lt}
use Rattle.std.proofs.Math.Arith.{mod-mul}
use Rattle.std.specs.Int.Bits.{bit_or}
use Rattle.packing.specs.Mask.{Mask, count, coord, coords, packed, wrapped, sums, hd, tl}
use Rattle.packing.specs.Ids.{region, from_fours, to_fours}
use Rattle.packing.specs.Neighbours.{◌∈◌, near, nears, block, block_count, parities}
use Rattle.packing.proofs.Linear.{both, both_left, both_right, and_both, place_zero, coord_zero}
use Rattle.packing.proofs.Sum.{place_mod}
use Rattle.packing.proofs.Group.{coord_lt}
use Rattle.packing.proofs.Axis.{cut, coord_cut, Wide, wide, floor_sum, split_sum, low_sum, Near, is_near, near_is, one_colour, fours, zero_four, meet, Moves, moves}
use Rattle.packing.proofs.Shifts.{Each}

-- ---- an axis: two of its digits stand below bit 12, and at least one above

unfoldable pub cut_at12 : Mask → Bool
unfolding cut count
cut_at12 m = both (cut 12 2 m) (leb 3 (count m))

unfoldable pub all_cut : List Mask → Bool
unfolding cut_at12
all_cut [] = true
all_cut (m ∷ ms) = both (cut_at12 m) (all_cut ms)

pub record Axis (m : Mask) : Type 0 where
  -- a region's coordinate is a multiple of 4
  pub floor : (i : ℕ) → coord m (region i) ≡ coord m i / 4 * 4
  pub wide : Wide m

axis_of : (m : Mask) → T (cut_at12 m) → Axis m
unfolding cut_at12 region
axis_of m t =
    record {
      floor = coord_cut 12 2 m (both_left (cut 12 2 m) (leb 3 (count m)) t);
      wide = wide m (leb→le 3 (count m) (both_right (cut 12 2 m) (leb 3 (count m)) t));
    }

abbrev pub Axes : List Mask → Type 0
Axes [] = Unit {0}
Axes (m ∷ ms) = Axis m × Axes ms

pub axes_of : (ms : List Mask) → T (all_cut ms) → Axes ms
unfolding all_cut
axes_of [] t = tt
axes_of (m ∷ ms) t = (axis_of m (both_left (cut_at12 m) (all_cut ms) t), axes_of ms (both_right (cut_at12 m) (all_cut ms) t))

-- ---- coordinates of regions

abbrev pub floor : ℕ → ℕ
floor c = c / 4 * 4

pub floors : (ms : List Mask) → Axes ms → (i : ℕ) → coords ms (region i) ≡ map floor (coords ms i)
unfolding coords
floors [] a i = refl
floors (m ∷ ms) a i = ap₂ ◌∷◌ (a.0.floor i) (floors ms a.1 i)

pub floor_sums : (ms : List Mask) → Axes ms → (r x : ℕ)
    → map floor (sums ms (coords ms (region r)) (coords ms x)) ≡ sums ms (coords ms (region r)) (coords ms (region x))
unfolding coords sums
floor_sums [] a r x = refl
floor_sums (m ∷ ms) a r x =
    let w = a.0.wide in
    ap₂ ◌∷◌
    (rw (a.0.floor r, a.0.floor x, w.are) (floor_sum (w.pairs * 2) (coord m r) (coord m x) (omega (arith, w.some))))
    (floor_sums ms a.1 r x)

-- a coordinate is its region's and its number's
from_to : (c n : ℕ) → ((c % 4 + 4 * n) % 4 ≡ c % 4) × ((c % 4 + 4 * n) / 4 ≡ n)
from_to c n = (omega arith, omega arith)

pub splits : (ms : List Mask) → Axes ms → (i : ℕ)
    → sums ms (coords ms (region i)) (wrapped ms (to_fours ms (from_fours (coords ms i)))) ≡ coords ms i
unfolding coords sums wrapped to_fours from_fours
splits [] a i = refl
splits (m ∷ ms) a i =
    let w = a.0.wide in
    let c : ℕ = coord m i in
    let n : ℕ = from_fours (coords ms i) in
    let l : c % 4 < 2 ^ count m = omega (arith, w.are, w.some) in
    let e : (c % 4 + 4 * n) % 4 % 2 ^ count m ≡ c % 4 = ap (λ (x : ℕ). x % 2 ^ count m) (from_to c n).0 ∙ mod-eq_of_lt l in
    ap₂ ◌∷◌
    (ap₂ (λ (x y : ℕ). (x + y) % 2 ^ count m) (a.0.floor i) e ∙ split_sum (2 ^ count m) c (coord_lt m i))
    (ap (λ (x : ℕ). sums ms (coords ms (region i)) (wrapped ms (to_fours ms x))) (from_to c n).1 ∙ splits ms a.1 i)

-- the number of the cell that has a number
pub numbers : (ms : List Mask) → Axes ms → (r n : ℕ)
    → from_fours (sums ms (coords ms (region r)) (wrapped ms (to_fours ms n))) ≡ n % 4 ^ length ms
unfolding coords sums wrapped to_fours from_fours
numbers [] a r n = sym (mod-one n)
numbers (m ∷ ms) a r n =
    let w = a.0.wide in
    let l : n % 4 < 2 ^ count m = omega (arith, w.are, w.some) in
    let e : n % 4 % 2 ^ count m ≡ n % 4 = mod-eq_of_lt l in
    let h : (coord m (region r) + n % 4 % 2 ^ count m) % 2 ^ count m % 4 ≡ n % 4 % 4 =
    rw (e, a.0.floor r, w.are) (low_sum (w.pairs * 2) (coord m r) (n % 4) (omega (arith, w.some))) in
    let q : n % 4 ^ suc (length ms) ≡ (n / 4 % 4 ^ length ms) * 4 + n % 4 =
    ap (λ (x : ℕ). n % x) (pow-suc 4 (length ms)) ∙ mod-mul n (four_pos (length ms)) (omega arith) in
    omega (arith, numbers ms a.1 r (n / 4))
  where
    four_pos : (k : ℕ) → 0 < 4 ^ k
    four_pos zero = omega arith
    four_pos (suc k) = omega (arith, four_pos k, pow-suc 4 k)

-- the number of a cell that lies at a shift from a region's first
pub low_sums : (ms : List Mask) → Axes ms → (r x : ℕ) → from_fours (sums ms (coords ms (region r)) (coords ms x)) ≡ from_fours (coords ms x)
unfolding coords sums from_fours
low_sums [] a r x = refl
low_sums (m ∷ ms) a r x =
    let w = a.0.wide in
    ap₂ (λ (c n : ℕ). c + 4 * n)
    (rw (a.0.floor r, w.are) (low_sum (w.pairs * 2) (coord m r) (coord m x) (omega (arith, w.some))))
    (low_sums ms a.1 r x)

-- ---- what a shift carries into another region

-- the shifts of a stencil move by 0, 1 or 2
abbrev pub steps : List ℕ
steps = 0 ∷ 1 ∷ 2 ∷ []

step_le : {c : ℕ} → c ∈ steps → c ≤ 2
step_le m =
    ⊎_elim (λ e. omega arith)
    (λ u. ⊎_elim (λ e. omega arith) (λ v. ⊎_elim (λ e. omega arith) (λ w. absurd (Memᴰ.not-nil w)) (Memᴰ.cases_cons v)) (Memᴰ.cases_cons u))
    (Memᴰ.cases_cons m)

-- the block that a small sum of coordinates falls into
floor_small : (m : Mask) → Wide m → (a b : ℕ) → a < 4 → b ≤ 2 → floor ((a % 2 ^ count m + b % 2 ^ count m) % 2 ^ count m) ≡ floor (a + b)
floor_small m w a b p q =
    let la : a < 2 ^ count m = omega (arith, w.are, w.some) in
    let lb : b < 2 ^ count m = omega (arith, w.are, w.some) in
    let ls : a + b < 2 ^ count m = omega (arith, w.are, w.some) in
    ap floor (ap (λ (x : ℕ). x % 2 ^ count m) (ap₂ ◌+◌ (mod-eq_of_lt la) (mod-eq_of_lt lb)) ∙ mod-eq_of_lt ls)

four_or_none : (n : ℕ) → n < 8 → floor n ∈ fours
four_or_none n h =
    elim (dec_lt n 4) [
      | yes p ↦ let e : floor n ≡ 0 = omega arith in Memᴰ.head e
      | no q ↦ let e : floor n ≡ 4 = omega arith in Memᴰ.tail (Memᴰ.head e)
    ]

pub carried : (ms : List Mask) → Axes ms → (n : ℕ) (cs : List ℕ) → Each steps ms cs
    → Each fours ms (map floor (sums ms (wrapped ms (to_fours ms n)) (wrapped ms cs)))
unfolding sums wrapped to_fours
carried [] a n [] e = tt
carried [] a n (c ∷ cs) e = absurd e
carried (m ∷ ms) a n [] e = absurd e
carried (m ∷ ms) a n (c ∷ cs) e =
    let l : c ≤ 2 = step_le e.0 in
    let s : n % 4 + c < 8 = omega arith in
    (Memᴰ.cast (floor_small m a.0.wide (n % 4) c (omega arith) l) (four_or_none (n % 4 + c) s), carried ms a.1 (n / 4) cs e.1)

-- from the cells whose coordinates are 2 a shift by half a block reaches the block, and every such shift is there
abbrev pub half : ℕ → ℕ
half t = t / 2

pub twos : List Mask → List ℕ
twos ms = map (λ m. 2) ms

half_step : {t : ℕ} → t ∈ fours → half t ∈ steps
half_step m =
    ⊎_elim (λ e. Memᴰ.head (omega arith)) (λ e. Memᴰ.tail (Memᴰ.tail (Memᴰ.head (omega arith)))) (zero_four m)

pub halves : (ms : List Mask) (ts : List ℕ) → Each fours ms ts → Each steps ms (map half ts)
halves [] [] e = tt
halves [] (t ∷ ts) e = absurd e
halves (m ∷ ms) [] e = absurd e
halves (m ∷ ms) (t ∷ ts) e = (half_step e.0, halves ms ts e.1)

pub reached : (ms : List Mask) → Axes ms → (ts : List ℕ) → Each fours ms ts
    → map floor (sums ms (wrapped ms (twos ms)) (wrapped ms (map half ts))) ≡ ts
unfolding sums wrapped twos
reached [] a [] e = refl
reached [] a (t ∷ ts) e = absurd e
reached (m ∷ ms) a [] e = absurd e
reached (m ∷ ms) a (t ∷ ts) e =
    let f : floor (2 + half t) ≡ t = ⊎_elim (λ z. omega arith) (λ z. omega arith) (zero_four e.0) in
    ap₂ ◌∷◌ (floor_small m a.0.wide 2 (half t) (omega arith) (step_le (half_step e.0)) ∙ f) (reached ms a.1 ts e.1)

-- cells with coordinates below 4 are in the region 0
pub floor_fours : (ms : List Mask) → Axes ms → (n : ℕ) → map floor (wrapped ms (to_fours ms n)) ≡ coords ms 0
unfolding wrapped to_fours coords
floor_fours [] a n = refl
floor_fours (m ∷ ms) a n =
    let w = a.0.wide in
    let l : n % 4 < 2 ^ count m = omega (arith, w.are, w.some) in
    let e : n % 4 % 2 ^ count m ≡ n % 4 = mod-eq_of_lt l in
    ap₂ ◌∷◌ (omega (arith, coord_zero m)) (floor_fours ms a.1 (n / 4))

pub floor_twos : (ms : List Mask) → Axes ms → map floor (wrapped ms (twos ms)) ≡ coords ms 0
unfolding wrapped twos coords
floor_twos [] a = refl
floor_twos (m ∷ ms) a =
    let w = a.0.wide in
    let l : 2 < 2 ^ count m = omega (arith, w.are, w.some) in
    let e : 2 % 2 ^ count m ≡ 2 = mod-eq_of_lt l in
    ap₂ ◌∷◌ (omega (arith, coord_zero m)) (floor_twos ms a.1)

-- moves by none or one block end at a block
pub floor_moves : (ms : List Mask) (ts : List ℕ) → Each fours ms ts → map floor ts ≡ ts
floor_moves [] [] e = refl
floor_moves [] (t ∷ ts) e = absurd e
floor_moves (m ∷ ms) [] e = absurd e
floor_moves (m ∷ ms) (t ∷ ts) e =
    let f : floor t ≡ t = ⊎_elim (λ z. omega arith) (λ z. omega arith) (zero_four e.0) in
    ap₂ ◌∷◌ f (floor_moves ms ts e.1)

-- ---- shifts as ids

-- small shifts are not wrapped
pub unwrapped : (ms : List Mask) → Axes ms → (vals : List ℕ) → ((v : ℕ) → v ∈ vals → v < 8) → (cs : List ℕ) → Each vals ms cs → wrapped ms cs ≡ cs
unfolding wrapped
unwrapped [] a vals h [] e = refl
unwrapped [] a vals h (c ∷ cs) e = absurd e
unwrapped (m ∷ ms) a vals h [] e = absurd e
unwrapped (m ∷ ms) a vals h (c ∷ cs) e =
    let w = a.0.wide in
    let l : c < 2 ^ count m = omega (arith, w.are, w.some, h c e.0) in
    ap₂ ◌∷◌ (mod-eq_of_lt l) (unwrapped ms a.1 vals h cs e.1)

pub four_small : (v : ℕ) → v ∈ fours → v < 8
four_small v m = ⊎_elim (λ e. omega arith) (λ e. omega arith) (zero_four m)

unfoldable pub zeros : List Mask → List ℕ
zeros ms = map (λ m. 0) ms

pub packed_zeros : (ms : List Mask) → packed ms (zeros ms) ≡ 0
unfolding packed zeros
packed_zeros [] = refl
packed_zeros (m ∷ ms) = ap₂ bit_or (place_zero m) (packed_zeros ms)

pub packed_wrapped : (ms : List Mask) (cs : List ℕ) → packed ms (wrapped ms cs) ≡ packed ms cs
unfolding packed wrapped
packed_wrapped [] cs = refl
packed_wrapped (m ∷ ms) cs = ap₂ bit_or (place_mod m (hd cs)) (packed_wrapped ms (tl cs))

-- ---- regions that meet

-- the blocks of an axis: their number is even, and the block of a region is that of its cells
record Blocks (m : Mask) (n : ℕ) : Type 0 where
  some : 0 < n
  are : 2 ^ count m ≡ n * 4
  many : block_count m ≡ n
  kept : (i : ℕ) → block m (region i) ≡ block m i
  below : (i : ℕ) → block m i < n
  whole : (i : ℕ) → coord m (region i) ≡ block m i * 4

blocks : (m : Mask) (a : Axis m) → Blocks m (a.wide.pairs * 2)
blocks m a =
    let w = a.wide in
    record {
      some = omega (arith, w.some);
      are = w.are;
      many = omega (arith, w.are);
      kept = λ i. omega (arith, a.floor i);
      below = λ i. omega (arith, w.are, coord_lt m i);
      whole = a.floor;
    }

-- region ids whose moves by none or one block agree are near
meets_at : (m : Mask) → Axis m → (p q s t : ℕ) → s ∈ fours → t ∈ fours
    → (coord m (region p) + s) % 2 ^ count m ≡ (coord m (region q) + t) % 2 ^ count m
    → T (near (block_count m) (block m (region p)) (block m (region q)))
meets_at m a p q s t u v e =
    let b = blocks m a in
    rw (b.many, b.kept p, b.kept q)
    (is_near (meet (a.wide.pairs * 2) (block m p) (block m q) s t b.some (b.below p) (b.below q) u v (rw (b.whole p, b.whole q, b.are) at e)))

pub meets : (ms : List Mask) → Axes ms → (p q : ℕ) (s t : List ℕ) → Each fours ms s → Each fours ms t
    → sums ms (coords ms (region p)) s ≡ sums ms (coords ms (region q)) t → T (nears ms (region p) (region q))
unfolding sums coords nears
meets [] a p q s t u v e = tt
meets (m ∷ ms) a p q [] t u v e = absurd u
meets (m ∷ ms) a p q (s ∷ ss) [] u v e = absurd v
meets (m ∷ ms) a p q (s ∷ ss) (t ∷ ts) u v e =
    and_both (near (block_count m) (block m (region p)) (block m (region q))) (nears ms (region p) (region q))
    (meets_at m a.0 p q s t u.0 v.0 (ap hd e)) (meets ms a.1 p q ss ts u.1 v.1 (ap tl e))

-- and near ones have such moves
pub record Meeting (ms : List Mask) (p q : ℕ) : Type 0 where
  pub one : List ℕ
  pub other : List ℕ
  pub one_is : Each fours ms one
  pub other_is : Each fours ms other
  pub agree : sums ms (coords ms (region p)) one ≡ sums ms (coords ms (region q)) other

moves_at : (m : Mask) (a : Axis m) (p q : ℕ) → T (near (block_count m) (block m (region p)) (block m (region q)))
    → Moves (a.wide.pairs * 2) (block m p) (block m q)
moves_at m a p q t =
    let b = blocks m a in
    moves b.some (b.below p) (b.below q)
    (near_is (a.wide.pairs * 2) (block m p) (block m q) (rw (b.many, b.kept p, b.kept q) at t))

agree_at : (m : Mask) (a : Axis m) (p q s t : ℕ)
    → (block m p * 4 + s) % (a.wide.pairs * 2 * 4) ≡ (block m q * 4 + t) % (a.wide.pairs * 2 * 4)
    → (coord m (region p) + s) % 2 ^ count m ≡ (coord m (region q) + t) % 2 ^ count m
agree_at m a p q s t e =
    let b = blocks m a in
    rw (b.whole p, b.whole q, b.are) e

pub meeting : (ms : List Mask) → Axes ms → (p q : ℕ) → T (nears ms (region p) (region q)) → Meeting ms p q
unfolding sums coords nears
meeting [] a p q t = record { one = []; other = []; one_is = tt; other_is = tt; agree = refl }
meeting (m ∷ ms) a p q t =
    let n : Bool = near (block_count m) (block m (region p)) (block m (region q)) in
    let v = moves_at m a.0 p q (both_left n (nears ms (region p) (region q)) t) in
    let w = meeting ms a.1 p q (both_right n (nears ms (region p) (region q)) t) in
    record {
      one = v.one ∷ w.one;
      other = v.other ∷ w.other;
      one_is = (v.one_is, w.one_is);
      other_is = (v.other_is, w.other_is);
      agree = ap₂ ◌∷◌ (agree_at m a.0 p q v.one v.other v.meets) w.agree;
    }

-- ---- colours

-- near regions of one parity on each axis have one coordinate on each
pub one_region_lem : (ms : List Mask) → Axes ms → (p q : ℕ) → T (nears ms (region p) (region q)) → parities ms p ≡ parities ms q
    → coords ms (region p) ≡ coords ms (region q)
unfolding nears coords parities
one_region_lem [] a p q t e = refl
one_region_lem (m ∷ ms) a p q t e =
    let n : Bool = near (block_count m) (block m (region p)) (block m (region q)) in
    let b = blocks m a.0 in
    let v : Near (a.0.wide.pairs * 2) (block m p) (block m q) =
    near_is (a.0.wide.pairs * 2) (block m p) (block m q)
    (rw (b.many, b.kept p, b.kept q) at (both_left n (nears ms (region p) (region q)) t)) in
    let c : block m p ≡ block m q = one_colour a.0.wide.pairs (block m p) (block m q) (b.below p) (b.below q) (omega arith) v in
    ap₂ ◌∷◌ (b.whole p ∙ ap (λ (x : ℕ). x * 4) c ∙ sym (b.whole q))
    (one_region_lem ms a.1 p q (both_right n (nears ms (region p) (region q)) t) (omega arith))
