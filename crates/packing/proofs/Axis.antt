-- The arithmetic of one axis: blocks of 4 cells, n of them, n even, so that coordinates are modulo n · 4.
-- Assumes nothing.
use Rattle.std.proofs.Common.{◌≡◌, ℕ, zero, suc, ◌+◌, ◌-◌, ◌*◌, ◌/◌, ◌%◌, ◌^◌, ◌<◌, ◌≤◌, Bool, true, false, ◌||◌, T, eqb, ◌⊎◌, List, [], ◌∷◌, sym, refl, ap, ◌∙◌, subst, inl, inr, ⊎_elim, mod-eq_of_lt, mul_assoc, mul_comm, add-sub_of_le, pow-suc, arith, eqb→eq, pow_pos, pow-add}
use mathlib.Core.List.Memᴰ
use Rattle.std.proofs.Math.Nat.{mod_self, div-div-eq-div-mul}
use Rattle.std.proofs.Math.Decide.{dec_lt}
use Rattle.std.proofs.Math.Arith.{mod-mul}
use Rattle.std.proofs.Math.Dec.{eqb_refl}
use Rattle.std.specs.Int.Bits.{shifted_half, shifted_even}
use Rattle.packing.specs.Mask.{Mask, count, coord}
use Rattle.packing.specs.Neighbours.{◌∈◌, near}
use Rattle.packing.proofs.Linear.{or_left, or_right, or_cases}

-- ---- a coordinate's region part

-- n digits of the mask are set among its k lowest
unfoldable pub cut : ℕ → ℕ → Mask → Bool
cut zero zero m = true
cut zero (suc n) m = false
cut (suc k) n [] = false
cut (suc k) zero (true ∷ m) = false
cut (suc k) (suc n) (true ∷ m) = cut k n m
cut (suc k) n (false ∷ m) = cut k n m

div_suc : (x n : ℕ) → x / 2 ^ suc n ≡ x / 2 / 2 ^ n
div_suc x n = ap (λ (y : ℕ). x / y) (pow-suc 2 n ∙ mul_comm (2 ^ n) 2) ∙ sym (div-div-eq-div-mul x 2 (2 ^ n))

mul_suc : (x n : ℕ) → x * 2 ^ suc n ≡ x * 2 ^ n * 2
mul_suc x n = ap (λ (y : ℕ). x * y) (pow-suc 2 n) ∙ sym (mul_assoc x (2 ^ n) 2)

floor_half : (i k : ℕ) → i / 2 ^ suc k * 2 ^ suc k / 2 ≡ i / 2 / 2 ^ k * 2 ^ k
floor_half i k = shifted_half (i / 2 ^ suc k) k ∙ ap (λ (y : ℕ). y * 2 ^ k) (div_suc i k)

-- without its k lowest digits an id has the coordinate without its n lowest
pub coord_cut : (k n : ℕ) (m : Mask) → T (cut k n m) → (i : ℕ) → coord m (i / 2 ^ k * 2 ^ k) ≡ coord m i / 2 ^ n * 2 ^ n
unfolding cut coord
coord_cut zero zero m t i =
    let e : (x : ℕ) → x / 1 * 1 ≡ x = λ x. omega arith in
    ap (coord m) (e i) ∙ sym (e (coord m i))
coord_cut zero (suc n) m t i = absurd t
coord_cut (suc k) n [] t i = absurd t
coord_cut (suc k) zero (true ∷ m) t i = absurd t
coord_cut (suc k) (suc n) (true ∷ m) t i =
    let q : ℕ = coord m (i / 2) in
    let h : (q * 2 + i % 2) / 2 ≡ q = omega arith in
    let z : i / 2 ^ suc k * 2 ^ suc k % 2 ≡ 0 = shifted_even (i / 2 ^ suc k) k in
    let e : coord m (i / 2 ^ suc k * 2 ^ suc k / 2) ≡ q / 2 ^ n * 2 ^ n = ap (coord m) (floor_half i k) ∙ coord_cut k n m t (i / 2) in
    let s : (q * 2 + i % 2) / 2 ^ suc n * 2 ^ suc n ≡ q / 2 ^ n * 2 ^ n * 2 =
    mul_suc ((q * 2 + i % 2) / 2 ^ suc n) n ∙ ap (λ (y : ℕ). y * 2 ^ n * 2) (div_suc (q * 2 + i % 2) n ∙ ap (λ (y : ℕ). y / 2 ^ n) h) in
    omega arith
coord_cut (suc k) zero (false ∷ m) t i = ap (coord m) (floor_half i k) ∙ coord_cut k zero m t (i / 2)
coord_cut (suc k) (suc n) (false ∷ m) t i = ap (coord m) (floor_half i k) ∙ coord_cut k (suc n) m t (i / 2)

-- ---- wide enough for two blocks and more

pub record Wide (m : Mask) : Type 0 where
  pub pairs : ℕ
  pub some : 0 < pairs
  pub are : 2 ^ count m ≡ pairs * 2 * 4

pub wide : (m : Mask) → 3 ≤ count m → Wide m
wide m h =
    let e : 2 ^ count m ≡ 8 * 2 ^ (count m - 3) = ap (λ (x : ℕ). 2 ^ x) (sym (add-sub_of_le h)) ∙ pow-add 2 3 (count m - 3) in
    record { pairs = 2 ^ (count m - 3); some = pow_pos (count m - 3); are = omega arith }

-- ---- sums

-- a sum with whole blocks, modulo n blocks
in_blocks : (n y : ℕ) → 0 < n → y % (n * 4) ≡ (y / 4 % n) * 4 + y % 4
in_blocks n y h = mod-mul y h (omega arith)

pub floor_sum : (n r x : ℕ) → 0 < n → (r / 4 * 4 + x) % (n * 4) / 4 * 4 ≡ (r / 4 * 4 + x / 4 * 4) % (n * 4)
floor_sum n r x h =
    let a : (r / 4 * 4 + x) / 4 ≡ r / 4 + x / 4 = omega arith in
    let b : (r / 4 * 4 + x / 4 * 4) / 4 ≡ r / 4 + x / 4 = omega arith in
    let e : (r / 4 * 4 + x) / 4 % n ≡ (r / 4 * 4 + x / 4 * 4) / 4 % n = ap (λ (y : ℕ). y % n) (a ∙ sym b) in
    omega (arith, in_blocks n (r / 4 * 4 + x) h, in_blocks n (r / 4 * 4 + x / 4 * 4) h)

-- a coordinate is its block and its place there
pub split_sum : (n c : ℕ) → c < n → (c / 4 * 4 + c % 4) % n ≡ c
split_sum n c h =
    let e : c / 4 * 4 + c % 4 ≡ c = omega arith in
    ap (λ (y : ℕ). y % n) e ∙ mod-eq_of_lt h

pub low_sum : (n r x : ℕ) → 0 < n → (r / 4 * 4 + x) % (n * 4) % 4 ≡ x % 4
low_sum n r x h = omega (arith, in_blocks n (r / 4 * 4 + x) h)

-- ---- near

eqb_of : {a b : ℕ} → a ≡ b → T (eqb a b)
eqb_of {a} e = subst (λ (x : ℕ). T (eqb a x)) e (eqb_refl a)

-- the three ways to be near
pub data Near (n a b : ℕ) : Type 0 where
  level : a ≡ b → Near n a b
  after : b ≡ (a + 1) % n → Near n a b
  before : a ≡ (b + 1) % n → Near n a b

pub is_near : {n a b : ℕ} → Near n a b → T (near n a b)
unfolding near
is_near {n} {a} {b} (level e) = or_left (eqb a b) (eqb b ((a + 1) % n) || eqb a ((b + 1) % n)) (eqb_of e)
is_near {n} {a} {b} (after e) =
    or_right (eqb a b) (eqb b ((a + 1) % n) || eqb a ((b + 1) % n)) (or_left (eqb b ((a + 1) % n)) (eqb a ((b + 1) % n)) (eqb_of e))
is_near {n} {a} {b} (before e) =
    or_right (eqb a b) (eqb b ((a + 1) % n) || eqb a ((b + 1) % n)) (or_right (eqb b ((a + 1) % n)) (eqb a ((b + 1) % n)) (eqb_of e))

pub near_is : (n a b : ℕ) → T (near n a b) → Near n a b
unfolding near
near_is n a b t =
    ⊎_elim (λ e. level (eqb→eq a b e))
    (λ u. ⊎_elim (λ e. after (eqb→eq b ((a + 1) % n) e)) (λ e. before (eqb→eq a ((b + 1) % n) e)) (or_cases (eqb b ((a + 1) % n)) (eqb a ((b + 1) % n)) u))
    (or_cases (eqb a b) (eqb b ((a + 1) % n) || eqb a ((b + 1) % n)) t)

-- the next block: one more, or the first after the last
next : (n a : ℕ) → a < n → (((a + 1) % n ≡ a + 1) × (a + 1 < n)) ⊎ (((a + 1) % n ≡ 0) × (a + 1 ≡ n))
next n a h =
    elim (dec_lt (a + 1) n) [
      | yes p ↦ inl (mod-eq_of_lt p, p)
      | no q ↦ let e : a + 1 ≡ n = omega arith in inr (ap (λ (x : ℕ). x % n) e ∙ mod_self n, e)
    ]

-- of one parity, near blocks are one block
pub one_colour : (h a b : ℕ) → a < h * 2 → b < h * 2 → a % 2 ≡ b % 2 → Near (h * 2) a b → a ≡ b
one_colour h a b p q c (level e) = e
one_colour h a b p q c (after e) = ⊎_elim (λ w. omega (arith, w.0, w.1)) (λ w. omega (arith, w.0, w.1)) (next (h * 2) a p)
one_colour h a b p q c (before e) = ⊎_elim (λ w. omega (arith, w.0, w.1)) (λ w. omega (arith, w.0, w.1)) (next (h * 2) b q)

-- ---- where two blocks meet, each moved by none or one

-- the cells of none or one block
abbrev pub fours : List ℕ
fours = 0 ∷ 4 ∷ []

pub zero_four : {s : ℕ} → s ∈ fours → (s ≡ 0) ⊎ (s ≡ 4)
zero_four m = ⊎_elim inl (λ u. ⊎_elim inr (λ v. absurd (Memᴰ.not-nil v)) (Memᴰ.cases_cons u)) (Memᴰ.cases_cons m)

pub is_zero : 0 ∈ fours
is_zero = Memᴰ.head refl

pub is_four : 4 ∈ fours
is_four = Memᴰ.tail (Memᴰ.head refl)

stay : (n a s : ℕ) → 0 < n → a < n → s ≡ 0 → (a * 4 + s) % (n * 4) ≡ a * 4
stay n a s h l e =
    let d : (a * 4 + s) / 4 ≡ a = omega arith in
    let f : (a * 4 + s) / 4 % n ≡ a = ap (λ (x : ℕ). x % n) d ∙ mod-eq_of_lt l in
    omega (arith, in_blocks n (a * 4 + s) h)

move : (n a s : ℕ) → 0 < n → s ≡ 4 → (a * 4 + s) % (n * 4) ≡ (a + 1) % n * 4
move n a s h e =
    let d : (a * 4 + s) / 4 ≡ a + 1 = omega arith in
    let f : (a * 4 + s) / 4 % n ≡ (a + 1) % n = ap (λ (x : ℕ). x % n) d in
    omega (arith, in_blocks n (a * 4 + s) h)

same_next : (n a b : ℕ) → a < n → b < n → (a + 1) % n ≡ (b + 1) % n → a ≡ b
same_next n a b p q e =
    ⊎_elim (λ w. ⊎_elim (λ v. omega (arith, w.0, v.0)) (λ v. omega (arith, w.0, v.0)) (next n b q))
    (λ w. ⊎_elim (λ v. omega (arith, w.0, v.0)) (λ v. omega (arith, w.1, v.1)) (next n b q)) (next n a p)

pub meet : (n a b s t : ℕ) → 0 < n → a < n → b < n → s ∈ fours → t ∈ fours → (a * 4 + s) % (n * 4) ≡ (b * 4 + t) % (n * 4) → Near n a b
meet n a b s t h p q u v e =
    ⊎_elim
    (λ s0. ⊎_elim (λ t0. level (omega (arith, stay n a s h p s0, stay n b t h q t0))) (λ t4. before (omega (arith, stay n a s h p s0, move n b t h t4)))
    (zero_four v))
    (λ s4. ⊎_elim (λ t0. after (omega (arith, move n a s h s4, stay n b t h q t0)))
    (λ t4. level (same_next n a b p q (omega (arith, move n a s h s4, move n b t h t4)))) (zero_four v))
    (zero_four u)

-- the moves by which near blocks meet
pub record Moves (n a b : ℕ) : Type 0 where
  pub one : ℕ
  pub other : ℕ
  pub one_is : one ∈ fours
  pub other_is : other ∈ fours
  pub meets : (a * 4 + one) % (n * 4) ≡ (b * 4 + other) % (n * 4)

pub moves : {n a b : ℕ} → 0 < n → a < n → b < n → Near n a b → Moves n a b
moves {n} {a} {b} h p q (level e) =
    record { one = 0; other = 0; one_is = is_zero; other_is = is_zero; meets = ap (λ (x : ℕ). (x * 4 + 0) % (n * 4)) e }
moves {n} {a} {b} h p q (after e) =
    record { one = 4; other = 0; one_is = is_four; other_is = is_zero; meets = omega (arith, move n a 4 h refl, stay n b 0 h q refl) }
moves {n} {a} {b} h p q (before e) =
    record { one = 0; other = 4; one_is = is_zero; other_is = is_four; meets = omega (arith, stay n a 0 h p refl, move n b 4 h refl) }
