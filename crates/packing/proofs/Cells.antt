-- The laws of a dimension, from tests of its masks and shifts that compute.
-- Assumes nothing.
use Rattle.std.proofs.Common.{◌≡◌, ℕ, zero, suc, ◌+◌, ◌*◌, ◌/◌, ◌%◌, ◌^◌, ◌<◌, ◌≤◌, Bool, true, not, ◌&&◌, T, eqb, ltb, List, [], ◌∷◌, map, length, get_or, sym, refl, ap, ◌∙◌, subst, ap₂, le_of_suc-le-suc, not-suc-le-zero, lt_of_le_of_lt, mod-lt, pow-suc, add-one, arith, ltb→lt, T_not, pow_pos, shr-shr}
use mathlib.Core.List.Memᴰ
use Rattle.std.proofs.Math.Nat.{mod-one}
use Rattle.std.proofs.Math.Arith.{mod-mul}
use Rattle.std.proofs.Math.Dec.{eqb_refl}
use Rattle.std.proofs.Math.ListN.{length-map}
use Rattle.std.proofs.Math.Pow.{shl-shr, split}
use Rattle.std.specs.Int.Bits.{bit_and, and_block, and_shr, and_zero_l, and_le_r, and_mask}
use Rattle.packing.specs.Mask.{Mask, coords, packed, wrapped, sums, whole, minus, negs, below}
use Rattle.packing.specs.Ids.{Dim, packed_id, coordinates, sum, region, number, cell_of, colour, to_fours, from_fours, packed_shifts, packed_region_shifts, region_neighbours, stencil_of}
use Rattle.packing.specs.Neighbours.{◌∈◌, Distinct, IsCell, IsRegion, reach, carry, Reaches, reached_by, Common, nears, block, parities}
use Rattle.packing.specs.Laws.{Laws}
use Rattle.packing.proofs.Linear.{both_left, both_right, arg, ◌&◌, ◌>>◌, read, run, alike, same}
use Rattle.packing.proofs.Group.{Sums, sums_of, again, back, back_below, sums_wrapped, disjoint}
use Rattle.packing.proofs.Axis.{fours}
use Rattle.packing.proofs.Shifts.{in_map, From, from_map, Each, just, just_in, just_each}
use Rattle.packing.proofs.Regions as R
use Rattle.packing.proofs.Regions.{Axes, axes_of, all_cut, floor, steps, zeros}

-- ---- colours

-- the lowest bit of the axes' blocks stands at bit b, the next axis's at the next bit
unfoldable pub leads : ℕ → List Mask → Bool
unfolding run alike
leads b [] = true
leads b (m ∷ ms) = alike 64 (run (read m arg >> 2 & 1)) (run (arg >> b & 1)) && leads (suc b) ms

lead_at : (m : Mask) (b : ℕ) → T (alike 64 (run (read m arg >> 2 & 1)) (run (arg >> b & 1))) → (i : ℕ) → i < 2 ^ 64 → block m i % 2 ≡ i / 2 ^ b % 2
unfolding run
lead_at m b t i h =
    sym (and_mask (block m i) 1) ∙ same 64 (read m arg >> 2 & 1) (arg >> b & 1) t i h ∙ and_mask (i / 2 ^ b) 1

coloured : (b : ℕ) (ms : List Mask) → T (leads b ms) → (i : ℕ) → i < 2 ^ 64 → i / 2 ^ b % 2 ^ length ms ≡ parities ms i
unfolding leads parities
coloured b [] t i h = mod-one (i / 2 ^ b)
coloured b (m ∷ ms) t i h =
    let a : Bool = alike 64 (run (read m arg >> 2 & 1)) (run (arg >> b & 1)) in
    let e : i / 2 ^ b % 2 ^ suc (length ms) ≡ (i / 2 ^ b / 2 % 2 ^ length ms) * 2 + i / 2 ^ b % 2 =
    ap (λ (x : ℕ). i / 2 ^ b % x) (pow-suc 2 (length ms)) ∙ mod-mul (i / 2 ^ b) (pow_pos (length ms)) (pow_pos 1) in
    let f : i / 2 ^ b / 2 ≡ i / 2 ^ suc b = shr-shr i b 1 ∙ ap (λ (x : ℕ). i / 2 ^ x) (add-one b) in
    let g : i / 2 ^ b / 2 % 2 ^ length ms ≡ parities ms i =
    ap (λ (x : ℕ). x % 2 ^ length ms) f ∙ coloured (suc b) ms (both_right a (leads (suc b) ms) t) i h in
    omega (arith, lead_at m b (both_left a (leads (suc b) ms) t) i h)

-- ---- entries that differ

unfoldable pub absent : ℕ → List ℕ → Bool
absent x [] = true
absent x (y ∷ l) = not (eqb x y) && absent x l

unfoldable pub all_differ : List ℕ → Bool
unfolding absent
all_differ [] = true
all_differ (x ∷ l) = absent x l && all_differ l

not_there : (x : ℕ) (l : List ℕ) → T (absent x l) → x ∈ l → ⊥
unfolding absent
not_there x [] t n = elim n [ ]
not_there x (y ∷ l) t (Memᴰ.head e) =
    T_not (eqb x y) (both_left (not (eqb x y)) (absent x l) t) (subst (λ (z : ℕ). T (eqb x z)) e (eqb_refl x))
not_there x (y ∷ l) t (Memᴰ.tail m) = not_there x l (both_right (not (eqb x y)) (absent x l) t) m

distinct : (l : List ℕ) → T (all_differ l) → Distinct l
unfolding all_differ
distinct [] t = tt
distinct (x ∷ l) t =
    (not_there x l (both_left (absent x l) (all_differ l) t), distinct l (both_right (absent x l) (all_differ l) t))

-- what differs still does, moved by a function that can be undone
distinct_map : (f : ℕ → ℕ) (l : List ℕ) → ((x y : ℕ) → x ∈ l → y ∈ l → f x ≡ f y → x ≡ y) → Distinct l → Distinct (map f l)
distinct_map f [] h u = tt
distinct_map f (x ∷ l) h u = (
  λ m. let w = from_map f l m in u.0 (Memᴰ.cast (h x w.at (Memᴰ.head refl) (Memᴰ.tail w.stands) w.gives) w.stands),
  distinct_map f l (λ a b p q. h a b (Memᴰ.tail p) (Memᴰ.tail q)) u.1,
)

-- what stands at a place of a mapped list
pub at_map : {A : Type 0} (f : A → ℕ) (d : A) (l : List A) (k : ℕ) → k < length l → get_or (map f l) k 0 ≡ f (get_or l k d)
at_map f d [] k h = absurd (not-suc-le-zero h)
at_map f d (x ∷ l) zero h = refl
at_map f d (x ∷ l) (suc k) h = at_map f d l k (le_of_suc-le-suc h)

-- numbers of a region's cells are below 4 for each axis
few_numbers : (ms : List Mask) (i : ℕ) → from_fours (coords ms i) < 4 ^ length ms
unfolding from_fours coords
few_numbers [] i = omega arith
few_numbers (m ∷ ms) i = rw (pow-suc 4 (length ms)) (omega (arith, few_numbers ms i))

-- ---- regions as numbers

region_region : (i : ℕ) → region (region i) ≡ region i
unfolding region
region_region i = ap (λ (x : ℕ). x * 2 ^ 12) (shl-shr (i / 2 ^ 12) 12)

clean_region : (w i : ℕ) → bit_and i w ≡ i → bit_and (region i) w ≡ region i
unfolding region
clean_region w i e =
    let h : bit_and (i / 2 ^ 12) (w / 2 ^ 12) ≡ i / 2 ^ 12 = sym (and_shr i w 12) ∙ ap (λ (x : ℕ). x / 2 ^ 12) e in
    let z : (x : ℕ) → x * 2 ^ 12 + 0 ≡ x * 2 ^ 12 = λ x. omega arith in
    ap₂ bit_and (sym (z (i / 2 ^ 12))) (sym (split w 12)) ∙ and_block 12 (i / 2 ^ 12) (w / 2 ^ 12) 0 (w % 2 ^ 12) (pow_pos 12) (mod-lt w (pow_pos 12))
    ∙ ap (λ (x : ℕ). x * 2 ^ 12 + 0) h ∙ z (i / 2 ^ 12)

-- ---- a dimension

-- what is computed of its masks and shifts
pub record Good (d : Dim) : Type 0 where
  -- sums see the axes below this bit
  pub bit : ℕ
  pub sees : d.sum_axes ≡ below bit d.axes
  pub packs : T (disjoint d.axes)
  pub adds : T (disjoint d.sum_axes)
  pub cuts : T (all_cut d.sum_axes)
  pub stencil : T (just steps d.sum_axes d.shifts)
  pub neighbours : T (just fours d.sum_axes (zeros d.sum_axes ∷ d.region_shifts))
  pub colours : T (leads 12 d.sum_axes)
  pub words : T (ltb (whole d.sum_axes) (2 ^ 64))
  pub differ : T (all_differ (packed_shifts d))

module _ (d : Dim) (g : Good d) where
  group : Sums d.sum_axes
  group = sums_of d.sum_axes g.adds

  axes : Axes d.sum_axes
  axes = axes_of d.sum_axes g.cuts

  -- cells with equal coordinates are equal
  pub by_coords : {i j : ℕ} → IsCell d i → IsCell d j → coords d.sum_axes i ≡ coords d.sum_axes j → i ≡ j
  by_coords {i} {j} p q e = sym p ∙ sym (again d.sum_axes i) ∙ ap (packed d.sum_axes) e ∙ again d.sum_axes j ∙ q

  pub is_packed : (cs : List ℕ) → IsCell d (packed d.sum_axes cs)
  is_packed cs =
      sym (again d.sum_axes (packed d.sum_axes cs)) ∙ ap (packed d.sum_axes) (back d.sum_axes g.adds cs) ∙ R.packed_wrapped d.sum_axes cs

  closed : (i j : ℕ) → IsCell d (sum d i j)
  unfolding sum
  closed = group.clean

  reads : (i j : ℕ) → coords d.sum_axes (sum d i j) ≡ sums d.sum_axes (coords d.sum_axes i) (coords d.sum_axes j)
  unfolding sum
  reads = group.reads

  -- what sums see of a packed id
  seen : (cs : List ℕ) → coords d.sum_axes (packed_id d cs) ≡ wrapped d.sum_axes cs
  unfolding packed_id
  seen cs =
      subst (λ (ms : List Mask). T (disjoint ms) → coords ms (packed d.axes cs) ≡ wrapped ms cs) (sym g.sees)
      (λ t. back_below g.bit d.axes t cs) g.adds

  adds_packed_lem : (a b : List ℕ) → coords d.sum_axes (sum d (packed_id d a) (packed_id d b)) ≡ sums d.sum_axes a b
  adds_packed_lem a b = reads (packed_id d a) (packed_id d b) ∙ ap₂ (sums d.sum_axes) (seen a) (seen b) ∙ sums_wrapped d.sum_axes a b

  neutral : {i : ℕ} → IsCell d i → sum d i 0 ≡ i
  unfolding sum
  neutral {i} p = group.neutral i ∙ p

  comm : (i j : ℕ) → sum d i j ≡ sum d j i
  unfolding sum
  comm = group.comm

  assoc : (i j k : ℕ) → sum d (sum d i j) k ≡ sum d i (sum d j k)
  unfolding sum
  assoc = group.assoc

  inverse : (i : ℕ) → sum d i (minus d.sum_axes i) ≡ 0
  unfolding sum
  inverse = group.inverse

  none : IsCell d 0
  none = and_zero_l (whole d.sum_axes)

  is_region_lem : {i : ℕ} → IsCell d i → IsCell d (region i)
  is_region_lem {i} p = clean_region (whole d.sum_axes) i p

  -- a sum with a region has the region of the other, moved
  region_sum : (r x : ℕ) → region (sum d (region r) x) ≡ sum d (region r) (region x)
  region_sum r x =
      by_coords (is_region_lem (closed (region r) x)) (closed (region r) (region x))
      (R.floors d.sum_axes axes (sum d (region r) x) ∙ ap (map floor) (reads (region r) x) ∙ R.floor_sums d.sum_axes axes r x
      ∙ sym (reads (region r) (region x)))

  -- ---- the cell of a region by its number

  cell_of_lem : (r n : ℕ) → coords d.sum_axes (cell_of d r n) ≡ sums d.sum_axes (coords d.sum_axes (region r)) (wrapped d.sum_axes (to_fours d.sum_axes n))
  unfolding cell_of
  cell_of_lem r n =
      reads (region r) (packed d.sum_axes (to_fours d.sum_axes n))
      ∙ ap (sums d.sum_axes (coords d.sum_axes (region r))) (back d.sum_axes g.adds (to_fours d.sum_axes n))

  is_cell_lem : (r n : ℕ) → IsCell d (cell_of d r n)
  unfolding cell_of
  is_cell_lem r n = closed (region r) (packed d.sum_axes (to_fours d.sum_axes n))

  rejoined : {i : ℕ} → IsCell d i → cell_of d (region i) (number d i) ≡ i
  unfolding number
  rejoined {i} p =
      by_coords (is_cell_lem (region i) (number d i)) p
      (cell_of_lem (region i) (number d i)
      ∙ ap (λ (x : ℕ). sums d.sum_axes (coords d.sum_axes x) (wrapped d.sum_axes (to_fours d.sum_axes (number d i)))) (region_region i)
      ∙ R.splits d.sum_axes axes i)

  number_of_lem : (r n : ℕ) → number d (cell_of d r n) ≡ n % 4 ^ length d.sum_axes
  unfolding number
  number_of_lem r n = ap from_fours (cell_of_lem r n) ∙ R.numbers d.sum_axes axes r n

  number_sum : (r x : ℕ) → number d (sum d (region r) x) ≡ number d x
  unfolding number
  number_sum r x = ap from_fours (reads (region r) x) ∙ R.low_sums d.sum_axes axes r x

  -- an id whose coordinates lie in the first block is in region 0
  in_first : (cs : List ℕ) → map floor (wrapped d.sum_axes cs) ≡ coords d.sum_axes 0 → region (packed d.sum_axes cs) ≡ 0
  in_first cs e =
      by_coords (is_region_lem (is_packed cs)) none
      (R.floors d.sum_axes axes (packed d.sum_axes cs) ∙ ap (map floor) (back d.sum_axes g.adds cs) ∙ e)

  region_of_lem : {r : ℕ} → IsCell d r → (n : ℕ) → region (cell_of d r n) ≡ region r
  unfolding cell_of
  region_of_lem {r} p n =
      region_sum r (packed d.sum_axes (to_fours d.sum_axes n))
      ∙ ap (sum d (region r)) (in_first (to_fours d.sum_axes n) (R.floor_fours d.sum_axes axes n)) ∙ neutral (is_region_lem p)

  -- ---- what a shift carries

  of_first : (n : ℕ) → cell_of d 0 n ≡ packed d.sum_axes (to_fours d.sum_axes n)
  unfolding cell_of region
  of_first n = comm 0 (packed d.sum_axes (to_fours d.sum_axes n)) ∙ neutral (is_packed (to_fours d.sum_axes n))

  -- a cell is its region plus a cell of region 0
  moved : {i : ℕ} → IsCell d i → i ≡ sum d (region i) (cell_of d 0 (number d i))
  unfolding cell_of
  moved {i} p =
      sym (rejoined p) ∙ ap₂ (sum d) (region_region i) (sym (of_first (number d i)))

  carries : {i : ℕ} → IsCell d i → (shift : ℕ) → region (sum d i shift) ≡ sum d (region i) (carry d (number d i) shift)
  unfolding carry
  carries {i} p s =
      let c : ℕ = cell_of d 0 (number d i) in
      ap (λ (x : ℕ). region (sum d x s)) (moved p) ∙ ap region (assoc (region i) c s) ∙ region_sum i (sum d c s)

  -- the shifts to a region and its neighbours, as coordinates
  moves : List (List ℕ)
  moves = zeros d.sum_axes ∷ d.region_shifts

  packed_moves : map (packed d.sum_axes) moves ≡ 0 ∷ packed_region_shifts d
  unfolding moves packed_region_shifts
  packed_moves = ap (λ (x : ℕ). x ∷ map (packed d.sum_axes) d.region_shifts) (R.packed_zeros d.sum_axes)

  -- an id whose coordinates are 0 or 4 is one of these
  is_move : {x : ℕ} → IsCell d x → Each fours d.sum_axes (coords d.sum_axes x) → x ∈ 0 ∷ packed_region_shifts d
  unfolding moves
  is_move {x} p e =
      subst (λ (l : List ℕ). x ∈ l) packed_moves
      (Memᴰ.cast (sym p ∙ sym (again d.sum_axes x)) (in_map (packed d.sum_axes) (just_in fours d.sum_axes moves g.neighbours e)))

  -- the coordinates of a region of a sum of packed ones
  floors_of : (a b : List ℕ)
      → coords d.sum_axes (region (sum d (packed d.sum_axes a) (packed d.sum_axes b)))
      ≡ map floor (sums d.sum_axes (wrapped d.sum_axes a) (wrapped d.sum_axes b))
  floors_of a b =
      R.floors d.sum_axes axes (sum d (packed d.sum_axes a) (packed d.sum_axes b))
      ∙ ap (map floor)
      (reads (packed d.sum_axes a) (packed d.sum_axes b)
      ∙ ap₂ (sums d.sum_axes) (back d.sum_axes g.adds a) (back d.sum_axes g.adds b))

  carried : (n : ℕ) {shift : ℕ} → shift ∈ packed_shifts d → carry d n shift ∈ 0 ∷ packed_region_shifts d
  unfolding carry packed_shifts
  carried n {shift} m =
      let w = from_map (packed d.sum_axes) d.shifts m in
      let e : region (sum d (cell_of d 0 n) shift) ≡ region (sum d (packed d.sum_axes (to_fours d.sum_axes n)) (packed d.sum_axes w.at)) =
      ap₂ (λ (x y : ℕ). region (sum d x y)) (of_first n) w.gives in
      Memᴰ.cast e
      (is_move (is_region_lem (closed (packed d.sum_axes (to_fours d.sum_axes n)) (packed d.sum_axes w.at)))
      (subst (λ (l : List ℕ). Each fours d.sum_axes l) (sym (floors_of (to_fours d.sum_axes n) w.at))
      (R.carried d.sum_axes axes n w.at (just_each steps d.sum_axes d.shifts g.stencil w.stands))))

  -- a region with its neighbours, as one list of sums
  reach_is : {r : ℕ} → IsCell d r → map (sum d r) (0 ∷ packed_region_shifts d) ≡ reach d r
  unfolding region_neighbours
  reach_is {r} p = ap (λ (x : ℕ). x ∷ map (sum d r) (packed_region_shifts d)) (neutral p)

  reaches : {i x : ℕ} → IsCell d i → x ∈ stencil_of d i → region x ∈ reach d (region i)
  unfolding stencil_of
  reaches {i} {x} p m =
      let w = from_map (sum d i) (packed_shifts d) m in
      subst (λ (l : List ℕ). region x ∈ l) (reach_is (is_region_lem p))
      (Memᴰ.cast (ap region w.gives ∙ carries p w.at) (in_map (sum d (region i)) (carried (number d i) w.stands)))

  -- ---- back from a region

  undone : {q : ℕ} → IsCell d q → (s : ℕ) → sum d (sum d q s) (minus d.sum_axes s) ≡ q
  undone {q} p s = assoc q s (minus d.sum_axes s) ∙ ap (sum d q) (inverse s) ∙ neutral p

  redone : {r : ℕ} → IsCell d r → (s : ℕ) → sum d (sum d r (minus d.sum_axes s)) s ≡ r
  redone {r} p s =
      assoc r (minus d.sum_axes s) s ∙ ap (sum d r) (comm (minus d.sum_axes s) s ∙ inverse s) ∙ neutral p

  reached_is : {r : ℕ} → IsCell d r → map (λ s. sum d r (minus d.sum_axes s)) (0 ∷ packed_region_shifts d) ≡ reached_by d r
  reached_is {r} p =
      ap (λ (x : ℕ). x ∷ map (λ s. sum d r (minus d.sum_axes s)) (packed_region_shifts d))
      (sym (neutral (closed r (minus d.sum_axes 0))) ∙ redone p 0)

  back_from : {q r : ℕ} → IsCell d q → IsCell d r → Reaches d q r → q ∈ reached_by d r
  unfolding stencil_of
  back_from {q} {r} p u h =
      let w = from_map (sum d h.cell) (packed_shifts d) h.in_stencil in
      let c : ℕ = carry d (number d h.cell) w.at in
      let e : sum d q c ≡ r =
      ap (λ (x : ℕ). sum d x c) (sym h.of) ∙ sym (carries h.is_cell w.at) ∙ ap region (sym w.gives) ∙ h.into in
      subst (λ (l : List ℕ). q ∈ l) (reached_is u)
      (Memᴰ.cast (sym (undone p c) ∙ ap (λ (x : ℕ). sum d x (minus d.sum_axes c)) e)
      (in_map (λ s. sum d r (minus d.sum_axes s)) (carried (number d h.cell) w.stands)))

  -- the shifts to a region and its neighbours are 0 or 4 on each axis
  pub record Move (x : ℕ) : Type 0 where
    pub by : List ℕ
    pub each : Each fours d.sum_axes by
    pub is : x ≡ packed d.sum_axes by

  move : {x : ℕ} → x ∈ 0 ∷ packed_region_shifts d → Move x
  unfolding moves
  move {x} m =
      let w = from_map (packed d.sum_axes) moves (subst (λ (l : List ℕ). x ∈ l) (sym packed_moves) m) in
      record { by = w.at; each = just_each fours d.sum_axes moves g.neighbours w.stands; is = w.gives }

  -- the cell of a region whose coordinates there are 2 reaches each neighbour
  goes_to : {q : ℕ} → IsRegion d q → (ts : List ℕ) → Each fours d.sum_axes ts → Reaches d q (sum d q (packed d.sum_axes ts))
  unfolding stencil_of packed_shifts
  goes_to {q} p ts e =
      let two : ℕ = packed d.sum_axes (R.twos d.sum_axes) in
      let s : ℕ = packed d.sum_axes (map R.half ts) in
      let inside : (x : ℕ) → region (sum d q x) ≡ sum d q (region x) =
      λ x. ap (λ (y : ℕ). region (sum d y x)) (sym p.whole) ∙ region_sum q x ∙ ap (λ (y : ℕ). sum d y (region x)) p.whole in
      record {
        cell = sum d q two;
        is_cell = closed q two;
        of = inside two ∙ ap (sum d q) (in_first (R.twos d.sum_axes) (R.floor_twos d.sum_axes axes)) ∙ neutral p.cell;
        id = sum d (sum d q two) s;
        in_stencil =
            in_map (sum d (sum d q two))
            (in_map (packed d.sum_axes) (just_in steps d.sum_axes d.shifts g.stencil (R.halves d.sum_axes ts e)));
        into =
            ap region (assoc q two s) ∙ inside (sum d two s)
            ∙ ap (sum d q)
            (by_coords (is_region_lem (closed two s)) (is_packed ts)
            (floors_of (R.twos d.sum_axes) (map R.half ts) ∙ R.reached d.sum_axes axes ts e
            ∙ sym (back d.sum_axes g.adds ts ∙ R.unwrapped d.sum_axes axes fours R.four_small ts e)));
      }

  forth_to : {q r : ℕ} → IsRegion d q → IsCell d r → q ∈ reached_by d r → Reaches d q r
  forth_to {q} {r} p u m =
      let w = from_map (λ s. sum d r (minus d.sum_axes s)) (0 ∷ packed_region_shifts d) (subst (λ (l : List ℕ). q ∈ l) (sym (reached_is u)) m) in
      let v = move w.stands in
      let e : sum d q (packed d.sum_axes v.by) ≡ r = ap₂ (sum d) w.gives (sym v.is) ∙ redone u w.at in
      subst (λ (x : ℕ). Reaches d q x) e (goes_to p v.by v.each)

  -- ---- regions in common

  unwrapped_move : (ts : List ℕ) → Each fours d.sum_axes ts → (r : ℕ)
      → coords d.sum_axes (sum d r (packed d.sum_axes ts)) ≡ sums d.sum_axes (coords d.sum_axes r) ts
  unwrapped_move ts e r =
      reads r (packed d.sum_axes ts)
      ∙ ap (sums d.sum_axes (coords d.sum_axes r)) (back d.sum_axes g.adds ts ∙ R.unwrapped d.sum_axes axes fours R.four_small ts e)

  from_reach : {x r : ℕ} → IsCell d r → x ∈ reach d r → From (sum d r) (0 ∷ packed_region_shifts d) x
  from_reach {x} {r} p m = from_map (sum d r) (0 ∷ packed_region_shifts d) (subst (λ (l : List ℕ). x ∈ l) (sym (reach_is p)) m)

  to_reach : {r : ℕ} → IsCell d r → (ts : List ℕ) → Each fours d.sum_axes ts → sum d r (packed d.sum_axes ts) ∈ reach d r
  unfolding moves
  to_reach {r} p ts e =
      subst (λ (l : List ℕ). sum d r (packed d.sum_axes ts) ∈ l) (reach_is p)
      (in_map (sum d r)
      (subst (λ (l : List ℕ). packed d.sum_axes ts ∈ l) packed_moves (in_map (packed d.sum_axes) (just_in fours d.sum_axes moves g.neighbours e))))

  -- a region is its own region
  region_coords : {r : ℕ} → IsRegion d r → coords d.sum_axes r ≡ coords d.sum_axes (region r)
  region_coords p = ap (coords d.sum_axes) (sym p.whole)

  as_regions : {p q : ℕ} → IsRegion d p → IsRegion d q → nears d.sum_axes (region p) (region q) ≡ nears d.sum_axes p q
  as_regions u v = ap₂ (nears d.sum_axes) u.whole v.whole

  common_near : {p q : ℕ} → IsRegion d p → IsRegion d q → Common d p q → T (nears d.sum_axes p q)
  common_near {p} {q} u v h =
      let a = from_reach u.cell h.one in
      let b = from_reach v.cell h.other in
      let s = move a.stands in
      let t = move b.stands in
      let e : sum d p (packed d.sum_axes s.by) ≡ sum d q (packed d.sum_axes t.by) =
      ap (sum d p) (sym s.is) ∙ sym a.gives ∙ b.gives ∙ ap (sum d q) t.is in
      subst T (as_regions u v)
      (R.meets d.sum_axes axes p q s.by t.by s.each t.each
      (ap (λ (l : List ℕ). sums d.sum_axes l s.by) (sym (region_coords u)) ∙ sym (unwrapped_move s.by s.each p) ∙ ap (coords d.sum_axes) e
      ∙ unwrapped_move t.by t.each q ∙ ap (λ (l : List ℕ). sums d.sum_axes l t.by) (region_coords v)))

  near_common : {p q : ℕ} → IsRegion d p → IsRegion d q → T (nears d.sum_axes p q) → Common d p q
  near_common {p} {q} u v h =
      let w = R.meeting d.sum_axes axes p q (subst T (sym (as_regions u v)) h) in
      let e : sum d p (packed d.sum_axes w.one) ≡ sum d q (packed d.sum_axes w.other) =
      by_coords (closed p (packed d.sum_axes w.one)) (closed q (packed d.sum_axes w.other))
      (unwrapped_move w.one w.one_is p ∙ ap (λ (l : List ℕ). sums d.sum_axes l w.one) (region_coords u) ∙ w.agree
      ∙ ap (λ (l : List ℕ). sums d.sum_axes l w.other) (sym (region_coords v)) ∙ sym (unwrapped_move w.other w.other_is q)) in
      record {
        shared = sum d p (packed d.sum_axes w.one);
        one = to_reach u.cell w.one w.one_is;
        other = Memᴰ.cast e (to_reach v.cell w.other w.other_is);
      }

  parity : {i : ℕ} → IsCell d i → colour d i ≡ parities d.sum_axes i
  unfolding colour
  parity {i} p =
      coloured 12 d.sum_axes g.colours i
      (lt_of_le_of_lt (subst (λ (x : ℕ). x ≤ whole d.sum_axes) p (and_le_r i (whole d.sum_axes))) (ltb→lt (whole d.sum_axes) (2 ^ 64) g.words))

  one_colour : {p q : ℕ} → IsRegion d p → IsRegion d q → colour d p ≡ colour d q → Common d p q → p ≡ q
  one_colour {p} {q} u v c h =
      by_coords u.cell v.cell
      (region_coords u
      ∙ R.one_region_lem d.sum_axes axes p q (subst T (sym (as_regions u v)) (common_near u v h)) (sym (parity u.cell) ∙ c ∙ parity v.cell)
      ∙ sym (region_coords v))

  -- ---- stencils

  is_shift : {s : ℕ} → s ∈ packed_shifts d → IsCell d s
  unfolding packed_shifts
  is_shift m =
      let w = from_map (packed d.sum_axes) d.shifts m in
      subst (λ (x : ℕ). IsCell d x) (sym w.gives) (is_packed w.at)

  cancel : (i : ℕ) {s t : ℕ} → IsCell d s → IsCell d t → sum d i s ≡ sum d i t → s ≡ t
  cancel i {s} {t} p q e = sym (undone p i) ∙ ap (λ (x : ℕ). sum d x (minus d.sum_axes i)) (comm s i ∙ e ∙ comm i t) ∙ undone q i

  stencil_differs : (i : ℕ) → Distinct (stencil_of d i)
  unfolding stencil_of
  stencil_differs i =
      distinct_map (sum d i) (packed_shifts d) (λ s t m n e. cancel i (is_shift m) (is_shift n) e) (distinct (packed_shifts d) g.differ)

  cells : (i : ℕ) {x : ℕ} → x ∈ stencil_of d i → IsCell d x
  unfolding stencil_of
  cells i m =
      let w = from_map (sum d i) (packed_shifts d) m in
      subst (λ (y : ℕ). IsCell d y) (sym w.gives) (closed i w.at)

  -- moves to neighbours are regions
  region_move : {x : ℕ} → x ∈ 0 ∷ packed_region_shifts d → region x ≡ x
  region_move {x} m =
      let v = move m in
      let e : coords d.sum_axes (packed d.sum_axes v.by) ≡ v.by =
      back d.sum_axes g.adds v.by ∙ R.unwrapped d.sum_axes axes fours R.four_small v.by v.each in
      let f : region (packed d.sum_axes v.by) ≡ packed d.sum_axes v.by =
      by_coords (is_region_lem (is_packed v.by)) (is_packed v.by)
      (R.floors d.sum_axes axes (packed d.sum_axes v.by) ∙ ap (map floor) e ∙ R.floor_moves d.sum_axes v.by v.each ∙ sym e) in
      ap region v.is ∙ f ∙ sym v.is

  regions : {r x : ℕ} → IsRegion d r → x ∈ reach d r → IsRegion d x
  regions {r} {x} p m =
      let w = from_reach p.cell m in
      let e : region (sum d r w.at) ≡ sum d r w.at =
      ap (λ (y : ℕ). region (sum d y w.at)) (sym p.whole) ∙ region_sum r w.at ∙ ap₂ (sum d) p.whole (region_move w.stands) in
      record {
        cell = subst (λ (y : ℕ). IsCell d y) (sym w.gives) (closed r w.at);
        whole = ap region w.gives ∙ e ∙ sym w.gives;
      }

  -- ---- together

  pub laws_of : Laws d
  unfolding packed_id coordinates sum minus stencil_of packed_shifts colour number
  laws_of =
      record {
        unpacked = back d.axes g.packs;
        adds = reads;
        ignores = group.stray;
        adds_packed = adds_packed_lem;
        closed = closed;
        assoc = assoc;
        comm = comm;
        none = none;
        neutral = neutral;
        negated = λ i. is_packed (negs d.sum_axes (coords d.sum_axes i));
        inverse = inverse;
        rejoined = rejoined;
        fixed = λ p q e f. sym (rejoined p) ∙ ap₂ (cell_of d) e f ∙ rejoined q;
        is_region = λ {i} p. record { cell = is_region_lem p; whole = region_region i };
        is_cell = is_cell_lem;
        region_of = λ p n. region_of_lem p.cell n ∙ p.whole;
        number_of = number_of_lem;
        carries = carries;
        carried = carried;
        reaches = reaches;
        regions = regions;
        reached = λ p u. (back_from p.cell u.cell, forth_to p u.cell);
        common = λ u v. (common_near u v, near_common u v);
        parity = parity;
        apart = one_colour;
        differ = λ {i} p. stencil_differs i;
        cells = cells;
        in_order = λ i. at_map (sum d i) 0 (packed_shifts d);
        moved = region_sum;
        numbered = number_sum;
        colours = λ r. mod-lt (r / 2 ^ 12) (pow_pos (length d.sum_axes));
        numbers = few_numbers d.sum_axes;
        shifted = length-map d.shifts (packed d.sum_axes);
        stencils = λ i. length-map (packed_shifts d) (sum d i) ∙ length-map d.shifts (packed d.sum_axes);
      }
