-- A finite position over an accepted width is a number, and of two numbers one is below the other or not. Assumes nothing.
use Rattle.std.proofs.Common.{◌≡◌, refl, sym, ap, ◌∙◌, Bool, true, false, ◌&&◌, ◌||◌, not, cond, true≢false, List, [], ◌∷◌, ◌⊎◌, inl, inr, ◌↔◌, ⊎_elim, ℕ, zero, suc, ◌+◌, ◌*◌, ◌-◌, ◌/◌, ◌%◌, ◌^◌, ◌<◌, ◌≤◌, zero-mul, eq-or-lt_of_le, arith, eqb, ltb, Float, eqb-true, lt-ltb, le-ltb, eq-eqb, ne_eqb}
use Prim.Native.Nat.{compare}
use lib.IntN.{ℤ}
use lib.Ieee.Fits.{down_pos}
use lib.Ieee.{Format, nan, inf, fin, binary32, up, down, unlike, below, level, low, prec, emax, size, nearest as nearest-to, odd, units, round, lt, eq, le, div, of_bits, is_nan}
use Rattle.laws.proofs.Rows.{lt_or_ge}
use Rattle.numeric.specs.Bits.{◌⊘◌, one}
use Rattle.numeric.specs.Round.{round_away}
use Rattle.cells.specs.Cells.{nearest, greatest_coordinate, in_range}
use Rattle.grid.specs.Table.{all, finite, least_width, greatest_width, good_width}
use Rattle.grid.proofs.Answers.{not_false, not_true}
use Rattle.grid.proofs.Lengths.{and_split}
use Rattle.particles.specs.Particles.{position_of}
use Rattle.particles.specs.Table.{not_finite, on_axis, off_grid, Beyond, BeyondOne, OnAxes}

-- ---- what is rounded is a number

some_odd : (d : ℕ) (s : Bool) (q k l : ℕ) → is_nan (odd d s q k l) ≡ false
unfolding odd is_nan
some_odd d s zero k l = refl
some_odd d s (suc q) k l = refl

rounded : (f : Format) (s : Bool) (n d : ℕ) → is_nan (round f s n d) ≡ false
unfolding round units is_nan
rounded f s n d =
    let m = n * 2 ^ low f in
    let k = size (m / d) - prec f in
    let u = d * 2 ^ k in
    let q = nearest-to (m / u) (compare (m % u * 2) u) in
    go (ltb (q * 2 ^ k) (2 ^ (low f + suc (emax f)))) (odd (suc (prec f)) s q k (low f)) (some_odd (suc (prec f)) s q k (low f))
  where
    go : (b : Bool) (x : Float) → is_nan x ≡ false → is_nan (cond b x (inf s)) ≡ false
    go true x e = e
    go false x e = refl

away : (x : Float) → is_nan x ≡ false → is_nan (round_away x) ≡ false
unfolding round_away is_nan
away nan e = e
away (inf s) e = refl
away (fin s m e) n = rounded binary32 s _ 1

-- ---- a width is above 0, so that a finite position over it is a number

-- no number above 0 is at most a zero
above_zero : (a b : ℕ) → 0 < a → b ≡ 0 → (t : Bool) → (below false a t b || level false a t b) ≡ true → ⊥
above_zero a b l z true e = true≢false (sym (rw (ne_eqb a b (λ same. omega arith)) at e))
above_zero a b l z false e = true≢false (sym (rw (le-ltb a b (omega arith), ne_eqb a b (λ same. omega arith)) at e))

above : (t : Bool) (n : ℕ) (d : ℤ) → le least_width (fin t n d) ≡ true → n ≡ 0 → ⊥
unfolding le lt eq of_bits
above t n d g e = above_zero (1 * 1 * down d) (n * up d * 2 ^ 20) (omega (arith, down_pos d)) (rw (e, zero-mul (up d)) refl) t g

quotient : (h x : Float) → good_width h ≡ true → finite x ≡ true → is_nan (x ⊘ h) ≡ false
unfolding good_width finite div is_nan
quotient nan x g f = absurd (true≢false (sym g))
quotient (inf t) x g f = absurd (true≢false (sym g))
quotient (fin t n d) nan g f = absurd (true≢false (sym f))
quotient (fin t n d) (inf s) g f = absurd (true≢false (sym f))
quotient (fin t n d) (fin s m e) g f =
    rw (ne_eqb n 0 (above t n d (and_split (le least_width (fin t n d)) (le (fin t n d) greatest_width) g).0))
    (rounded binary32 (unlike s t) (m * up e * down d) (n * up d * down e))

number : (h x : Float) → good_width h ≡ true → finite x ≡ true → is_nan (nearest h x) ≡ false
number h x g f = away (x ⊘ h) (quotient h x g f)

-- ---- of two numbers the first is at most the second, or the second is below the first

in_turn_lem : (a b : ℕ) (same : Bool) → (a ≡ b → same ≡ true) → ((a ≡ b → ⊥) → same ≡ false) → not (ltb a b || (same && true)) ≡ ltb b a
in_turn_lem a b same is is-not =
    ⊎_elim
    (λ (l : a < b). rw (lt-ltb a b l, le-ltb b a (omega arith)))
    (λ (l : b ≤ a).
    rw (le-ltb a b l)
    (⊎_elim (λ (e : b ≡ a). rw (is (sym e), le-ltb b a (omega arith))) (λ (u : b < a). rw (is-not (λ e. omega arith), lt-ltb b a u)) (eq-or-lt_of_le l)))
    (lt_or_ge a b)

-- zeros of either sign are equal, and nothing else of unlike signs is
not_both : (a b : ℕ) → 0 < b + a → (eqb a b && eqb a 0) ≡ false
not_both a b l = go (eqb a 0) refl
  where
    go : (z : Bool) → eqb a 0 ≡ z → (eqb a b && z) ≡ false
    go true q = let e : a ≡ 0 = eqb-true a 0 q in rw (ne_eqb a b (λ same. omega arith))
    go false q = none (eqb a b)
      where
        none : (x : Bool) → (x && false) ≡ false
        none true = refl
        none false = refl

by_size : (s : Bool) (a : ℕ) (t : Bool) (b : ℕ) → not (below s a t b || level s a t b) ≡ below t b s a
by_size false a false b = in_turn_lem a b (eqb a b) (eq-eqb a b) (ne_eqb a b)
by_size true a true b = in_turn_lem b a (eqb a b) (λ e. eq-eqb a b (sym e)) (λ n. ne_eqb a b (λ e. n (sym e)))
by_size false a true b =
    ⊎_elim
    (λ (l : 0 < b + a). rw (not_both a b l, lt-ltb 0 (b + a) l))
    (λ (l : b + a ≤ 0). let x : a ≡ 0 = omega arith in let y : b ≡ 0 = omega arith in rw (x, y))
    (lt_or_ge 0 (b + a))
by_size true a false b =
    ⊎_elim
    (λ (l : 0 < a + b). rw (lt-ltb 0 (a + b) l))
    (λ (l : a + b ≤ 0). let x : a ≡ 0 = omega arith in let y : b ≡ 0 = omega arith in rw (x, y))
    (lt_or_ge 0 (a + b))

not_at_most : (x y : Float) → is_nan x ≡ false → is_nan y ≡ false → not (le x y) ≡ lt y x
unfolding le lt eq is_nan
not_at_most nan y p q = absurd (true≢false p)
not_at_most (inf s) nan p q = absurd (true≢false q)
not_at_most (inf true) (inf true) p q = refl
not_at_most (inf true) (inf false) p q = refl
not_at_most (inf false) (inf true) p q = refl
not_at_most (inf false) (inf false) p q = refl
not_at_most (inf true) (fin t n d) p q = refl
not_at_most (inf false) (fin t n d) p q = refl
not_at_most (fin s m e) nan p q = absurd (true≢false q)
not_at_most (fin s m e) (inf true) p q = refl
not_at_most (fin s m e) (inf false) p q = refl
not_at_most (fin s m e) (fin t n d) p q = by_size s (m * up e * down d) t (n * up d * down e)

-- so a position is off the grid on an axis below the first coordinate, or above the last
ends : (r : Float) → is_nan r ≡ false → (in_range r ≡ false) ↔ ((lt r one ≡ true) ⊎ (lt greatest_coordinate r ≡ true))
unfolding is_nan of_bits
ends r n =
    let low : not (le one r) ≡ lt r one = not_at_most one r refl n in
    let high : not (le r greatest_coordinate) ≡ lt greatest_coordinate r = not_at_most r greatest_coordinate n refl in
    rw (← low, ← high) (either (le one r) (le r greatest_coordinate))
  where
    either : (a b : Bool) → ((a && b) ≡ false) ↔ ((not a ≡ true) ⊎ (not b ≡ true))
    either true b = (λ e. inr (ap not e), ⊎_elim (λ (e : false ≡ true). absurd (true≢false (sym e))) (λ (e : not b ≡ true). not_true b e))
    either false b = (λ e. inl refl, λ e. refl)

off : (h x : Float) → good_width h ≡ true → finite x ≡ true → (on_axis h x ≡ false) ↔ Beyond h x
unfolding on_axis
off h x g f = ends (nearest h x) (number h x g f)

off_one : (h : Float) (xs : List Float) → good_width h ≡ true → all finite xs ≡ true → (not (all (on_axis h) xs) ≡ true) ↔ BeyondOne h xs
off_one h [] g f = (λ e. true≢false (sym e), λ e. absurd e)
off_one h (x ∷ xs) g f =
    let split = and_split (finite x) (all finite xs) f in
    either (on_axis h x) (all (on_axis h) xs) (off h x g split.0) (off_one h xs g split.1)
  where
    either : {A B : Type 0} (a b : Bool) → (a ≡ false) ↔ A → (not b ≡ true) ↔ B → (not (a && b) ≡ true) ↔ (A ⊎ B)
    either true b p q = (λ e. inr (q.0 e), ⊎_elim (λ s. absurd (true≢false (p.1 s))) q.1)
    either false b p q = (λ e. inl (p.0 refl), λ e. refl)

pub on_axes : OnAxes
unfolding not_finite off_grid is_nan
on_axes =
    record {
      number = λ h x g f e. true≢false (sym (ap is_nan e) ∙ number h x g f);
      off = off;
      particle = λ h q g f.
          let x = and_split (finite q.position.x) _ (not_false _ f) in
          let y = and_split (finite q.position.y) _ x.1 in
          off_one h (position_of q) g (rw (x.0, y.0));
    }
