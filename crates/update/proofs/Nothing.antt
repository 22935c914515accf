-- What zeros make: a zero times anything is a zero or a NaN, a sum of such is one, and none of these is below 0. Assumes nothing.
use Rattle.std.proofs.Common.{◌≡◌, refl, sym, ◌∙◌, subst, Bool, true, false, List, [], ◌∷◌, ℕ, zero, suc, ◌*◌, ◌<◌, zero-mul, mul-pos, arith, ℤ, pos, Float}
use lib.Ieee.{nan, inf, fin, binary32, up, down, unlike, round, sum, add, mul, lt, of_bits}
use lib.Ieee.Fits.{down_pos}
use lib.Ieee.Scale.{round_same}
use Rattle.numeric.specs.Bits.{◌⊕◌, ◌⊗◌, none}
use Rattle.numeric.specs.Kernel.{plus_products, dot}

-- a zero of either sign, or a NaN
abbrev pub Nought : Float → Type 0
Nought nan = Unit {0}
Nought (inf s) = ⊥
Nought (fin s m e) = m ≡ 0

abbrev pub Noughts : List Float → Type 0
Noughts [] = Unit {0}
Noughts (x ∷ xs) = Nought x × Noughts xs

-- 0 / c is a zero, whatever c is
by_one : (s : Bool) → round binary32 s 0 1 ≡ fin s 0 (pos 0)
unfolding round
by_one s = refl

of_zero : (s : Bool) (c : ℕ) → 0 < c → Nought (round binary32 s 0 c)
of_zero s c p = subst Nought (sym (round_same binary32 s 0 c 0 1 p (omega arith) (omega arith) ∙ by_one s)) refl

times_zero : (m : ℕ) (e d : ℤ) → m ≡ 0 → m * up e * down d ≡ 0
times_zero m e d z = rw (z, zero-mul (up e)) (zero-mul (down d))

pub nought_product : (x y : Float) → Nought x → Nought (x ⊗ y)
unfolding mul
nought_product nan y p = tt
nought_product (inf s) y p = absurd p
nought_product (fin s m e) nan p = tt
nought_product (fin s m e) (inf t) p = rw p tt
nought_product (fin s m e) (fin t n d) p =
    let z : m * up e * (n * up d) ≡ 0 = rw (p, zero-mul (up e)) (zero-mul (n * up d)) in
    rw z (of_zero (unlike s t) (down e * down d) (mul-pos (down_pos e) (down_pos d)))

both : (s t : Bool) (c : ℕ) → 0 < c → Nought (sum binary32 s 0 t 0 c)
unfolding sum
both true true c p = of_zero true c p
both true false c p = of_zero false c p
both false true c p = of_zero false c p
both false false c p = of_zero false c p

pub nought_sum : (x y : Float) → Nought x → Nought y → Nought (x ⊕ y)
unfolding add
nought_sum nan y p q = tt
nought_sum (inf s) y p q = absurd p
nought_sum (fin s m e) nan p q = tt
nought_sum (fin s m e) (inf t) p q = absurd q
nought_sum (fin s m e) (fin t n d) p q =
    rw (times_zero m e d p, times_zero n d e q) (both s t (down e * down d) (mul-pos (down_pos e) (down_pos d)))

nought_plus : (s : Float) (xs ys : List Float) → Nought s → Noughts xs → Nought (plus_products s xs ys)
nought_plus s [] ys p q = p
nought_plus s (x ∷ xs) [] p q = p
nought_plus s (x ∷ xs) (y ∷ ys) p q = nought_plus (s ⊕ x ⊗ y) xs ys (nought_sum s (x ⊗ y) p (nought_product x y q.0)) q.1

pub nought_none : Nought none
unfolding of_bits
nought_none = refl

pub nought_dot : (xs ys : List Float) → Noughts xs → Nought (dot xs ys)
nought_dot [] ys p = nought_none
nought_dot (x ∷ xs) [] p = nought_none
nought_dot (x ∷ xs) (y ∷ ys) p = nought_plus (x ⊗ y) xs ys (nought_product x y p.0) p.1

pub nought_not_below : (x : Float) → Nought x → lt x none ≡ false
unfolding lt of_bits
nought_not_below nan p = refl
nought_not_below (inf s) p = absurd p
nought_not_below (fin true m e) p = rw (times_zero m e (pos 0) p, times_zero 0 (pos 0) e refl)
nought_not_below (fin false m e) p = rw (times_zero m e (pos 0) p, times_zero 0 (pos 0) e refl)

-- as many +0s
abbrev pub zeros : ℕ → List Float
zeros zero = []
zeros (suc m) = none ∷ zeros m

all_nought : (m : ℕ) → Noughts (zeros m)
all_nought zero = tt
all_nought (suc m) = (nought_none, all_nought m)

pub never_below : (ns : List Float) (m : ℕ) → lt (dot (zeros m) ns) none ≡ false
never_below ns m = nought_not_below (dot (zeros m) ns) (nought_dot (zeros m) ns (all_nought m))
