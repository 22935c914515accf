-- A masked sum adds the mask's coordinates, for any mask.
-- Assumes nothing.
use Rattle.std.proofs.Common.{◌≡◌, ℕ, zero, suc, ◌+◌, ◌-◌, ◌*◌, ◌/◌, ◌%◌, ◌^◌, ◌<◌, min, max, true, false, [], ◌∷◌, length, sym, refl, ap, ◌∙◌, ap₂, lt_of_le_of_lt, mod-lt, mod-eq_of_lt, pow-suc, arith, pow_pos}
use Rattle.std.proofs.Math.Nat.{mod-one}
use Rattle.std.proofs.Math.Arith.{mod-mul}
use Rattle.std.specs.Int.Bits.{bit_and, bit_or, and_step, or_step, and_zero_r, and_le_r, and_mod}
use Rattle.packing.specs.Mask.{Mask, num, count, coord, place, bits, is_one}

-- ---- one digit of a mask

pub and_set : (i m : ℕ) → bit_and i (m * 2 + 1) ≡ bit_and (i / 2) m * 2 + i % 2
and_set i m =
    let h : (m * 2 + 1) / 2 ≡ m = omega arith in
    let l : min (i % 2) ((m * 2 + 1) % 2) ≡ i % 2 = omega arith in
    and_step i (m * 2 + 1) ∙ ap₂ (λ (x y : ℕ). bit_and (i / 2) x * 2 + y) h l

pub and_clear : (i m : ℕ) → bit_and i (m * 2) ≡ bit_and (i / 2) m * 2
and_clear i m =
    let h : m * 2 / 2 ≡ m = omega arith in
    let l : bit_and (i / 2) m * 2 + min (i % 2) (m * 2 % 2) ≡ bit_and (i / 2) m * 2 = omega arith in
    and_step i (m * 2) ∙ ap (λ (x : ℕ). bit_and (i / 2) x * 2 + min (i % 2) (m * 2 % 2)) h ∙ l

or_set : (i m : ℕ) → bit_or i (m * 2 + 1) ≡ bit_or (i / 2) m * 2 + 1
or_set i m =
    let h : (m * 2 + 1) / 2 ≡ m = omega arith in
    let l : max (i % 2) ((m * 2 + 1) % 2) ≡ 1 = omega arith in
    or_step i (m * 2 + 1) ∙ ap₂ (λ (x y : ℕ). bit_or (i / 2) x * 2 + y) h l

or_clear : (i m : ℕ) → bit_or i (m * 2) ≡ bit_or (i / 2) m * 2 + i % 2
or_clear i m =
    let h : m * 2 / 2 ≡ m = omega arith in
    let l : max (i % 2) (m * 2 % 2) ≡ i % 2 = omega arith in
    or_step i (m * 2) ∙ ap₂ (λ (x y : ℕ). bit_or (i / 2) x * 2 + y) h l

-- ---- the other digits

pub rest : Mask → Mask
rest [] = []
rest (true ∷ m) = false ∷ rest m
rest (false ∷ m) = true ∷ rest m

num_rest : (m : Mask) → num m + num (rest m) + 1 ≡ 2 ^ length m
unfolding num rest
num_rest [] = refl
num_rest (true ∷ m) = omega (arith, num_rest m, pow-suc 2 (length m))
num_rest (false ∷ m) = omega (arith, num_rest m, pow-suc 2 (length m))

-- ---- the sum, with a carry into its lowest digit

carried : (m : Mask) (i j c : ℕ) → c < 2 → bit_and (bit_and i (num m) + bit_or j (num (rest m)) + c) (num m) ≡ place m (coord m i + coord m j + c)
unfolding num rest coord place
carried [] i j c h = and_zero_r (bit_and i 0 + bit_or j 0 + c)
carried (true ∷ m) i j c h =
    let s : ℕ = bit_and i (num m * 2 + 1) + bit_or j (num (rest m) * 2) + c in
    let c' : ℕ = (i % 2 + j % 2 + c) / 2 in
    let t : ℕ = coord m (i / 2) * 2 + i % 2 + (coord m (j / 2) * 2 + j % 2) + c in
    let a : bit_and i (num m * 2 + 1) ≡ bit_and (i / 2) (num m) * 2 + i % 2 = and_set i (num m) in
    let o : bit_or j (num (rest m) * 2) ≡ bit_or (j / 2) (num (rest m)) * 2 + j % 2 = or_clear j (num (rest m)) in
    let e₁ : s / 2 ≡ bit_and (i / 2) (num m) + bit_or (j / 2) (num (rest m)) + c' = omega arith in
    let e₂ : coord m (i / 2) + coord m (j / 2) + c' ≡ t / 2 = omega arith in
    let e₃ : s % 2 ≡ t % 2 = omega arith in
    and_set s (num m)
    ∙ ap₂ (λ (x y : ℕ). x * 2 + y)
    (ap (λ (x : ℕ). bit_and x (num m)) e₁ ∙ carried m (i / 2) (j / 2) c' (omega arith) ∙ ap (place m) e₂) e₃
carried (false ∷ m) i j c h =
    let s : ℕ = bit_and i (num m * 2) + bit_or j (num (rest m) * 2 + 1) + c in
    let a : bit_and i (num m * 2) ≡ bit_and (i / 2) (num m) * 2 = and_clear i (num m) in
    let o : bit_or j (num (rest m) * 2 + 1) ≡ bit_or (j / 2) (num (rest m)) * 2 + 1 = or_set j (num (rest m)) in
    let e : s / 2 ≡ bit_and (i / 2) (num m) + bit_or (j / 2) (num (rest m)) + c = omega arith in
    and_clear s (num m) ∙ ap (λ (x : ℕ). x * 2) (ap (λ (x : ℕ). bit_and x (num m)) e ∙ carried m (i / 2) (j / 2) c h)

num_lt : (m : Mask) → num m < 2 ^ length m
num_lt m = omega (arith, num_rest m)

-- what a mask cuts off, it may cut off before
and_wrapped : (k s : ℕ) {m : ℕ} → m < 2 ^ k → bit_and (s % 2 ^ k) m ≡ bit_and s m
and_wrapped k s {m} h =
    sym
    (sym (mod-eq_of_lt (lt_of_le_of_lt (and_le_r s m) h)) ∙ and_mod s m k ∙ ap (bit_and (s % 2 ^ k)) (mod-eq_of_lt h))

-- a place takes no more digits than the mask has
pub place_mod : (m : Mask) (c : ℕ) → place m (c % 2 ^ count m) ≡ place m c
unfolding place count
place_mod [] c = refl
place_mod (true ∷ m) c =
    let e : c % 2 ^ suc (count m) ≡ (c / 2 % 2 ^ count m) * 2 + c % 2 = ap (λ (x : ℕ). c % x) (pow-suc 2 (count m)) ∙ mod-mul c (pow_pos (count m)) (pow_pos 1) in
    let h : c % 2 ^ suc (count m) / 2 ≡ c / 2 % 2 ^ count m = omega arith in
    let l : c % 2 ^ suc (count m) % 2 ≡ c % 2 = omega arith in
    ap₂ (λ (x y : ℕ). x * 2 + y) (ap (place m) h ∙ place_mod m (c / 2)) l
place_mod (false ∷ m) c = ap (λ (x : ℕ). x * 2) (place_mod m c)

-- what the code computes, at a word of as many digits as the mask
pub masked : (m : Mask) (i j : ℕ)
    → bit_and ((bit_and i (num m) + bit_or j ((2 ^ length m - 1) - num m)) % 2 ^ length m) (num m)
    ≡ place m ((coord m i + coord m j) % 2 ^ count m)
masked m i j =
    let r : (2 ^ length m - 1) - num m ≡ num (rest m) = omega (arith, num_rest m) in
    let z : bit_and i (num m) + bit_or j (num (rest m)) ≡ bit_and i (num m) + bit_or j (num (rest m)) + 0 = omega arith in
    let y : coord m i + coord m j + 0 ≡ coord m i + coord m j = omega arith in
    and_wrapped (length m) (bit_and i (num m) + bit_or j ((2 ^ length m - 1) - num m)) (num_lt m)
    ∙ ap (λ (x : ℕ). bit_and (bit_and i (num m) + bit_or j x) (num m)) r
    ∙ ap (λ (x : ℕ). bit_and x (num m)) z ∙ carried m i j 0 (omega arith)
    ∙ ap (place m) y ∙ sym (place_mod m (coord m i + coord m j))

-- ---- a number as a mask

pub length_bits : (k n : ℕ) → length (bits k n) ≡ k
unfolding bits
length_bits zero n = refl
length_bits (suc k) n = ap suc (length_bits k (n / 2))

digit : (b n : ℕ) (m : Mask) → b < 2 → num (is_one b ∷ m) ≡ num m * 2 + b
unfolding num
digit zero n m h = omega arith
digit (suc zero) n m h = refl
digit (suc (suc b)) n m h = absurd (omega arith)

pub num_bits : (k n : ℕ) → num (bits k n) ≡ n % 2 ^ k
unfolding num bits
num_bits zero n = sym (mod-one n)
num_bits (suc k) n =
    digit (n % 2) n (bits k (n / 2)) (mod-lt n (pow_pos 1))
    ∙ ap (λ (x : ℕ). x * 2 + n % 2) (num_bits k (n / 2))
    ∙ sym (ap (λ (x : ℕ). n % x) (pow-suc 2 k) ∙ mod-mul n (pow_pos k) (pow_pos 1))

-- the same for a mask that is a number of k digits
pub masked_at : (k m i j : ℕ) → m < 2 ^ k
    → bit_and ((bit_and i m + bit_or j ((2 ^ k - 1) - m)) % 2 ^ k) m
    ≡ place (bits k m) ((coord (bits k m) i + coord (bits k m) j) % 2 ^ count (bits k m))
masked_at k m i j h =
    let e : num (bits k m) ≡ m = num_bits k m ∙ mod-eq_of_lt h in
    rw (e, length_bits k m) at (masked (bits k m) i j)
