-- Two expressions of shifts, masks, ors, places and coordinates that agree on each single digit agree on every number.
-- Assumes nothing.
use Rattle.std.proofs.Common.{◌≡◌, ℕ, zero, suc, ◌+◌, ◌*◌, ◌/◌, ◌%◌, ◌^◌, ◌<◌, min, max, Bool, true, false, ◌&&◌, ◌||◌, T, eqb, ◌⊎◌, [], ◌∷◌, sym, refl, ap, ◌∙◌, ap₂, inl, inr, mod-lt, pow-suc, zero-mul, arith, eqb→eq, pow_pos}
use Rattle.std.proofs.Math.Nat.{zero-div, zero-mod}
use Rattle.std.proofs.Math.Arith.{bin_ind, lt-one}
use Rattle.std.specs.Int.Bits.{bit_and, bit_or, and_step, or_step, or_shr, and_shr, or_mod, or_block, or_zero_r, or_comm}
use Rattle.packing.specs.Mask.{Mask, coord, place}

infixl 70 ◌&◌ ◌>>◌
infixl 65 ◌∣◌
-- ---- the digits of an or and an and

or_low : (a b : ℕ) → bit_or a b % 2 ≡ max (a % 2) (b % 2)
or_low a b = omega (arith, or_step a b)

and_low : (a b : ℕ) → bit_and a b % 2 ≡ min (a % 2) (b % 2)
and_low a b = omega (arith, and_step a b)

by_digits : {a b : ℕ} → a / 2 ≡ b / 2 → a % 2 ≡ b % 2 → a ≡ b
by_digits h l = omega arith

pub or_assoc : (a b c : ℕ) → bit_or (bit_or a b) c ≡ bit_or a (bit_or b c)
or_assoc =
    bin_ind (λ (n : ℕ). (b c : ℕ) → bit_or (bit_or n b) c ≡ bit_or n (bit_or b c)) (λ b c. refl)
    (λ n ih b c. by_digits
    (or_shr (bit_or n b) c 1 ∙ ap (λ (x : ℕ). bit_or x (c / 2)) (or_shr n b 1) ∙ ih (b / 2) (c / 2)
    ∙ sym (or_shr n (bit_or b c) 1 ∙ ap (bit_or (n / 2)) (or_shr b c 1)))
    (omega (arith, or_low (bit_or n b) c, or_low n b, or_low n (bit_or b c), or_low b c)))

pub and_or : (a b m : ℕ) → bit_and (bit_or a b) m ≡ bit_or (bit_and a m) (bit_and b m)
and_or =
    bin_ind (λ (n : ℕ). (b m : ℕ) → bit_and (bit_or n b) m ≡ bit_or (bit_and n m) (bit_and b m)) (λ b m. refl)
    (λ n ih b m. by_digits
    (and_shr (bit_or n b) m 1 ∙ ap (λ (x : ℕ). bit_and x (m / 2)) (or_shr n b 1) ∙ ih (b / 2) (m / 2)
    ∙ sym (or_shr (bit_and n m) (bit_and b m) 1 ∙ ap₂ bit_or (and_shr n m 1) (and_shr b m 1)))
    (omega (arith, and_low (bit_or n b) m, or_low n b, or_low (bit_and n m) (bit_and b m), and_low n m, and_low b m)))

pub or_swap : (a b c d : ℕ) → bit_or (bit_or a b) (bit_or c d) ≡ bit_or (bit_or a c) (bit_or b d)
or_swap a b c d =
    or_assoc a b (bit_or c d) ∙ ap (bit_or a) (sym (or_assoc b c d) ∙ ap (λ (x : ℕ). bit_or x d) (or_comm b c) ∙ or_assoc c b d)
    ∙ sym (or_assoc a c (bit_or b d))

or_shl : (k a b : ℕ) → bit_or a b * 2 ^ k ≡ bit_or (a * 2 ^ k) (b * 2 ^ k)
or_shl k a b =
    let e : (x : ℕ) → x * 2 ^ k + 0 ≡ x * 2 ^ k = λ x. omega arith in
    sym (ap₂ bit_or (sym (e a)) (sym (e b)) ∙ or_block k a b 0 0 (pow_pos k) (pow_pos k) ∙ e (bit_or a b))

or_twice : (a b : ℕ) → bit_or a b * 2 ≡ bit_or (a * 2) (b * 2)
or_twice a b = or_shl 1 a b

-- a number by its lowest digit
or_digit : (h l : ℕ) → l < 2 → h * 2 + l ≡ bit_or (h * 2) l
or_digit h l p =
    let e : h * 2 / 2 ≡ h = omega arith in
    let z : l / 2 ≡ 0 = omega arith in
    let d : l ≡ max (h * 2 % 2) (l % 2) = omega arith in
    sym (or_step (h * 2) l ∙ ap₂ (λ (x y : ℕ). x * 2 + y) (ap₂ bit_or e z ∙ or_zero_r h) (sym d))

-- ---- what takes ors to ors

pub record Linear (f : ℕ → ℕ) : Type 0 where
  pub none : f 0 ≡ 0
  pub joins : (a b : ℕ) → f (bit_or a b) ≡ bit_or (f a) (f b)

-- f and g agree at each of the k lowest digits

abbrev pub both : Bool → Bool → Bool
both a b = a && b

unfoldable pub alike : ℕ → (ℕ → ℕ) → (ℕ → ℕ) → Bool
alike zero f g = true
alike (suc k) f g = both (eqb (f 1) (g 1)) (alike k (λ (y : ℕ). f (y * 2)) (λ (y : ℕ). g (y * 2)))

pub both_left : (a b : Bool) → T (both a b) → T a
both_left true b t = tt
both_left false b t = t

pub both_right : (a b : Bool) → T (both a b) → T b
both_right true b t = t
both_right false b t = absurd t

pub and_both : (a b : Bool) → T a → T b → T (a && b)
and_both true b t u = u
and_both false b t u = t

pub or_left : (a b : Bool) → T a → T (a || b)
or_left true b t = tt
or_left false b t = absurd t

pub or_right : (a b : Bool) → T b → T (a || b)
or_right true b t = tt
or_right false b t = t

pub or_cases : (a b : Bool) → T (a || b) → T a ⊎ T b
or_cases true b t = inl tt
or_cases false b t = inr t

twice_linear : {f : ℕ → ℕ} → Linear f → Linear (λ y. f (y * 2))
twice_linear {f} l = record { none = l.none; joins = λ a b. ap f (or_twice a b) ∙ l.joins (a * 2) (b * 2) }

low_digit : (f g : ℕ → ℕ) → Linear f → Linear g → f 1 ≡ g 1 → (b : ℕ) → b < 2 → f b ≡ g b
low_digit f g lf lg e zero h = lf.none ∙ sym lg.none
low_digit f g lf lg e (suc zero) h = e
low_digit f g lf lg e (suc (suc b)) h = absurd (omega arith)

pub agree : (k : ℕ) (f g : ℕ → ℕ) → Linear f → Linear g → T (alike k f g) → (x : ℕ) → x < 2 ^ k → f x ≡ g x
unfolding alike
agree zero f g lf lg t x h = ap f (lt-one h) ∙ lf.none ∙ sym (ap g (lt-one h) ∙ lg.none)
agree (suc k) f g lf lg t x h =
    let p : x < 2 * 2 ^ k = omega (arith, pow-suc 2 k) in
    let e : x ≡ bit_or (x / 2 * 2) (x % 2) = omega (arith, or_digit (x / 2) (x % 2) (mod-lt x (pow_pos 1))) in
    ap f e ∙ lf.joins (x / 2 * 2) (x % 2)
    ∙ ap₂ bit_or
    (agree k (λ y. f (y * 2)) (λ y. g (y * 2)) (twice_linear lf) (twice_linear lg)
    (both_right (eqb (f 1) (g 1)) (alike k (λ (y : ℕ). f (y * 2)) (λ (y : ℕ). g (y * 2))) t) (x / 2) (omega arith))
    (low_digit f g lf lg (eqb→eq (f 1) (g 1) (both_left (eqb (f 1) (g 1)) (alike k (λ (y : ℕ). f (y * 2)) (λ (y : ℕ). g (y * 2))) t))
    (x % 2) (mod-lt x (pow_pos 1)))
    ∙ sym (ap g e ∙ lg.joins (x / 2 * 2) (x % 2))

-- ---- places and coordinates

or_pair : (h h' a b : ℕ) → bit_or h h' * 2 + bit_or a b % 2 ≡ bit_or (h * 2 + a % 2) (h' * 2 + b % 2)
or_pair h h' a b =
    let e : (h * 2 + a % 2) / 2 ≡ h = omega arith in
    let e' : (h' * 2 + b % 2) / 2 ≡ h' = omega arith in
    let d : bit_or a b % 2 ≡ max ((h * 2 + a % 2) % 2) ((h' * 2 + b % 2) % 2) = omega (arith, or_low a b) in
    sym (or_step (h * 2 + a % 2) (h' * 2 + b % 2) ∙ ap₂ (λ (x y : ℕ). x * 2 + y) (ap₂ bit_or e e') (sym d))

pub place_or : (m : Mask) (a b : ℕ) → place m (bit_or a b) ≡ bit_or (place m a) (place m b)
unfolding place
place_or [] a b = refl
place_or (true ∷ m) a b =
    ap (λ (x : ℕ). x * 2 + bit_or a b % 2) (ap (place m) (or_shr a b 1) ∙ place_or m (a / 2) (b / 2))
    ∙ or_pair (place m (a / 2)) (place m (b / 2)) a b
place_or (false ∷ m) a b = ap (λ (x : ℕ). x * 2) (place_or m a b) ∙ or_twice (place m a) (place m b)

pub place_zero : (m : Mask) → place m 0 ≡ 0
unfolding place
place_zero [] = refl
place_zero (true ∷ m) = ap (λ (x : ℕ). x * 2 + 0) (place_zero m)
place_zero (false ∷ m) = ap (λ (x : ℕ). x * 2) (place_zero m)

pub coord_or : (m : Mask) (a b : ℕ) → coord m (bit_or a b) ≡ bit_or (coord m a) (coord m b)
unfolding coord
coord_or [] a b = refl
coord_or (true ∷ m) a b =
    ap (λ (x : ℕ). x * 2 + bit_or a b % 2) (ap (coord m) (or_shr a b 1) ∙ coord_or m (a / 2) (b / 2))
    ∙ or_pair (coord m (a / 2)) (coord m (b / 2)) a b
coord_or (false ∷ m) a b = ap (coord m) (or_shr a b 1) ∙ coord_or m (a / 2) (b / 2)

pub coord_zero : (m : Mask) → coord m 0 ≡ 0
unfolding coord
coord_zero [] = refl
coord_zero (true ∷ m) = ap (λ (x : ℕ). x * 2 + 0) (coord_zero m)
coord_zero (false ∷ m) = coord_zero m

-- ---- an expression of one word

pub data Word : Type 0 where
  arg : Word
  ◌&◌ : Word → ℕ → Word
  ◌∣◌ : Word → Word → Word
  shl : ℕ → Word → ℕ → Word
  ◌>>◌ : Word → ℕ → Word
  placed : Mask → Word → Word
  read : Mask → Word → Word

unfoldable pub run : Word → ℕ → ℕ
run arg x = x
run (e & m) x = bit_and (run e x) m
run (e ∣ e') x = bit_or (run e x) (run e' x)
run (shl w e k) x = (run e x * 2 ^ k) % 2 ^ w
run (e >> k) x = run e x / 2 ^ k
run (placed m e) x = place m (run e x)
run (read m e) x = coord m (run e x)

run_zero : (e : Word) → run e 0 ≡ 0
unfolding run
run_zero arg = refl
run_zero (e & m) = ap (λ (x : ℕ). bit_and x m) (run_zero e)
run_zero (e ∣ e') = ap₂ bit_or (run_zero e) (run_zero e')
run_zero (shl w e k) = ap (λ (x : ℕ). (x * 2 ^ k) % 2 ^ w) (run_zero e) ∙ ap (λ (x : ℕ). x % 2 ^ w) (zero-mul (2 ^ k)) ∙ zero-mod (2 ^ w)
run_zero (e >> k) = ap (λ (x : ℕ). x / 2 ^ k) (run_zero e) ∙ zero-div (2 ^ k)
run_zero (placed m e) = ap (place m) (run_zero e) ∙ place_zero m
run_zero (read m e) = ap (coord m) (run_zero e) ∙ coord_zero m

run_or : (e : Word) (a b : ℕ) → run e (bit_or a b) ≡ bit_or (run e a) (run e b)
unfolding run
run_or arg a b = refl
run_or (e & m) a b = ap (λ (x : ℕ). bit_and x m) (run_or e a b) ∙ and_or (run e a) (run e b) m
run_or (e ∣ e') a b = ap₂ bit_or (run_or e a b) (run_or e' a b) ∙ or_swap (run e a) (run e b) (run e' a) (run e' b)
run_or (shl w e k) a b =
    ap (λ (x : ℕ). (x * 2 ^ k) % 2 ^ w) (run_or e a b) ∙ ap (λ (x : ℕ). x % 2 ^ w) (or_shl k (run e a) (run e b))
    ∙ or_mod (run e a * 2 ^ k) (run e b * 2 ^ k) w
run_or (e >> k) a b = ap (λ (x : ℕ). x / 2 ^ k) (run_or e a b) ∙ or_shr (run e a) (run e b) k
run_or (placed m e) a b = ap (place m) (run_or e a b) ∙ place_or m (run e a) (run e b)
run_or (read m e) a b = ap (coord m) (run_or e a b) ∙ coord_or m (run e a) (run e b)

-- two expressions that agree on each of k digits agree on every number of k digits
pub same : (k : ℕ) (e e' : Word) → T (alike k (run e) (run e')) → (x : ℕ) → x < 2 ^ k → run e x ≡ run e' x
same k e e' t =
    agree k (run e) (run e') (record { none = run_zero e; joins = run_or e }) (record { none = run_zero e'; joins = run_or e' }) t

-- ---- an axis of an id: two low digits at lo, and the rest, some places apart, from hi on. e has the digits that are so far apart.

abbrev pub Puts : Mask → Mask → ℕ → ℕ → Type 0
Puts e m hi lo = T (alike 32 (run (shl 64 (placed e (arg >> 2)) hi ∣ shl 64 (arg & 3) lo)) (run (placed m arg)))

abbrev pub Gets : Mask → Mask → ℕ → ℕ → Type 0
Gets e m hi lo = T (alike 64 (run (shl 64 (read e (arg >> hi)) 2 ∣ (arg >> lo) & 3)) (run (read m arg)))

-- s is what the function that spreads gives
pub put : (e m : Mask) (hi lo : ℕ) → Puts e m hi lo → (s v : ℕ) → s ≡ place e (v / 2 ^ 2) → v < 2 ^ 32
    → bit_or ((s * 2 ^ hi) % 2 ^ 64) ((bit_and v 3 * 2 ^ lo) % 2 ^ 64) ≡ place m v
unfolding run
put e m hi lo t s v p h =
    ap (λ (x : ℕ). bit_or ((x * 2 ^ hi) % 2 ^ 64) ((bit_and v 3 * 2 ^ lo) % 2 ^ 64)) p
    ∙ same 32 (shl 64 (placed e (arg >> 2)) hi ∣ shl 64 (arg & 3) lo) (placed m arg) t v h

-- and s what the function that puts together gives
pub get : (e m : Mask) (hi lo : ℕ) → Gets e m hi lo → (s i : ℕ) → s ≡ coord e (i / 2 ^ hi) → i < 2 ^ 64
    → bit_or ((s * 2 ^ 2) % 2 ^ 64) (bit_and (i / 2 ^ lo) 3) ≡ coord m i
unfolding run
get e m hi lo t s i p h =
    ap (λ (x : ℕ). bit_or ((x * 2 ^ 2) % 2 ^ 64) (bit_and (i / 2 ^ lo) 3)) p
    ∙ same 64 (shl 64 (read e (arg >> hi)) 2 ∣ (arg >> lo) & 3) (read m arg) t i h
