-- What an order that is not refused has shown, and one region more. Assumes nothing.
use Rattle.std.proofs.Common.{Ok, Err, ◌≡◌, refl, ap, ◌∙◌, Bool, true, false, ◌&&◌, ◌||◌, not, true≢false, ⊎_elim, List, [], ◌∷◌, ℕ, zero, suc, ◌+◌, ◌-◌, ◌≤◌, ◌<◌, add-zero, eq-or-lt_of_le, add-one, arith, eqb, ltb, Float, length, get_or, eqb-true, ltb-true, ltb-false, lt-ltb, le-ltb, eq-eqb, ne_eqb}
use Rattle.std.proofs.Math.Bool.{and-true}
use Rattle.std.proofs.lemmas.Bool.{eqb-false}
use Rattle.packing.proofs.Laws.{laws2, plane}
use Rattle.laws.specs.Store.{Store, store}
use Rattle.laws.specs.Orders.{InTurn}
use Rattle.laws.specs.Refusals as Refusals
use Rattle.laws.proofs.Refusals as Refused
use Rattle.grid.specs.Answers.{refused, refuse, unless, Answer, done, refusal}
use Rattle.grid.specs.Table.{all, finite, good_width, good_step, lengths, limits, settings, called}
use Rattle.grid.specs.declared.Rule.TheVariants.{Length, Code}
use Rattle.grid.proofs.Answers.{unless_end, refuse_passed, not_false, lengths_passed}
use Rattle.grid.proofs.Lengths.{and_split}
use Rattle.grid.proofs.Steps.{called_own, unless_assoc}
use Rattle.particles.specs.Table.{checked, stage_lengths, stage_check, Ready}
use Rattle.particles.proofs.Staging.{fitting, check_is}
use Rattle.scatter.specs.Scatter.{colours, region_scattered, scatter_check, place_check}
use Rattle.scatter.proofs.Checking.{ready}
use Rattle.solver.specs.Order.{place_at, colour_at, repeated, goes_back, out_of_turn, turns, order_check, in_order}

-- ---- the check

-- where the first of two answers is done, both are
both_done : (a b : Answer) → unless a b ≡ done → (a ≡ done) × (b ≡ done)
both_done (Ok u) b e = (refl, e)
both_done (Err x) b e = absurd (true≢false (ap refused e))

-- of five that are done, another fourth that is done does as well
other_fourth : (a b c d e f : Answer) → unless a (unless b (unless c (unless d e))) ≡ done → f ≡ done → (d ≡ done) × (unless a (unless b (unless c (unless f e))) ≡ done)
other_fourth a b c d e f p q =
    let two = both_done a (unless b (unless c (unless d e))) p in
    let three = both_done b (unless c (unless d e)) two.1 in
    let four = both_done c (unless d e) three.1 in
    let five = both_done d e four.1 in
    (five.0, rw (two.0, three.0, four.0, q) five.1)

-- a scatter that is accepted is accepted with anything else of its own that is done
pub other_own : (own other : Answer) (h dt : Float) (gravity : List Float) (regions : ℕ) (ids ranges : List ℕ) (count : ℕ) (particles : Store) (nf nw : ℕ)
    → scatter_check own h dt gravity regions ids ranges count particles nf nw ≡ done → other ≡ done
    → (own ≡ done) × (scatter_check other h dt gravity regions ids ranges count particles nf nw ≡ done)
unfolding scatter_check
other_own own other h dt gravity regions ids ranges count particles nf nw e o =
    other_fourth
    (lengths (stage_lengths regions ids ranges count particles nf nw))
    (limits regions count 0)
    (settings (good_width h ∷ good_step dt ∷ all finite gravity ∷ []))
    own (unless (checked h ids ranges particles count) done) other e o

-- an order of another length is refused for it
pub too_long : (order : List ℕ) (h dt : Float) (gravity : List Float) (regions : ℕ) (ids ranges : List ℕ) (count : ℕ) (particles : Store) (nf nw : ℕ)
    → (length order ≡ regions → ⊥) → refusal Length 0 ≡ order_check order h dt gravity regions ids ranges count particles nf nw
unfolding order_check
too_long order h dt gravity regions ids ranges count particles nf nw n = rw (ne_eqb (length order) regions n)

-- one of its own length in the steps in which the code goes: the lists, the order, the particles
pub in_steps : (order : List ℕ) (h dt : Float) (gravity : List Float) (regions : ℕ) (ids ranges : List ℕ) (count : ℕ) (particles : Store) (nf nw : ℕ) → length order ≡ regions
    → order_check order h dt gravity regions ids ranges count particles nf nw
    ≡ unless (called (fitting regions ids ranges count particles nf nw) (limits regions count 0) (good_width h && (good_step dt && all finite gravity)) done) (unless (turns ids order) (checked h ids ranges particles count))
unfolding order_check scatter_check
in_steps order h dt gravity regions ids ranges count particles nf nw l =
    let fit = fitting regions ids ranges count particles nf nw in
    let lim = limits regions count 0 in
    let good = good_width h ∷ good_step dt ∷ all finite gravity ∷ [] in
    let set = good_width h && (good_step dt && all finite gravity) in
    let rest = checked h ids ranges particles count in
    rw (eq-eqb (length order) regions l)
    (unless_end (stage_check good (turns ids order) h regions ids ranges count particles nf nw)
    ∙ check_is regions ids ranges count particles nf nw good (turns ids order) h
    ∙ rw (and-true (all finite gravity)) (ap (λ (a : Answer). unless a rest) (called_own fit lim set (turns ids order)) ∙ unless_assoc (called fit lim set done) (turns ids order) rest))

-- an order that stands in turn is accepted where the scatter is
pub then_scatter : (order : List ℕ) (h dt : Float) (gravity : List Float) (regions : ℕ) (ids ranges : List ℕ) (count : ℕ) (particles : Store) (nf nw : ℕ)
    → length order ≡ regions → turns ids order ≡ done → scatter_check done h dt gravity regions ids ranges count particles nf nw ≡ done
    → order_check order h dt gravity regions ids ranges count particles nf nw ≡ done
unfolding order_check
then_scatter order h dt gravity regions ids ranges count particles nf nw l t e = rw (eq-eqb (length order) regions l, t, e)

pub record Turned (order : List ℕ) (h dt : Float) (gravity : List Float) (regions : ℕ) (ids ranges : List ℕ) (count : ℕ) (particles : Store) (nf nw : ℕ) : Type 0 where
  pub as_long : length order ≡ regions
  pub in_turn_lem : turns ids order ≡ done
  pub accepted : scatter_check done h dt gravity regions ids ranges count particles nf nw ≡ done

-- an order that is not refused
pub turned : (order : List ℕ) (h dt : Float) (gravity : List Float) (regions : ℕ) (ids ranges : List ℕ) (count : ℕ) (particles : Store) (nf nw : ℕ)
    → order_check order h dt gravity regions ids ranges count particles nf nw ≡ done → Turned order h dt gravity regions ids ranges count particles nf nw
unfolding order_check
turned order h dt gravity regions ids ranges count particles nf nw e =
    let scatter = scatter_check (turns ids order) h dt gravity regions ids ranges count particles nf nw in
    let a = both_done (lengths ((length order, regions) ∷ [])) (unless scatter done) e in
    let b = other_own (turns ids order) done h dt gravity regions ids ranges count particles nf nw (both_done scatter done a.1).0 refl in
    record {
      as_long = eqb-true (length order) regions (and_split (eqb (length order) regions) true (lengths_passed ((length order, regions) ∷ []) (ap refused a.0))).0;
      in_turn_lem = b.0;
      accepted = b.1;
    }

-- ---- its entries

or_split : (a b : Bool) → (a || b) ≡ false → (a ≡ false) × (b ≡ false)
or_split true b e = absurd (true≢false e)
or_split false b e = (refl, e)

module _ (ids order : List ℕ) (e : turns ids order ≡ done) where
  in_turn_lem : (i : ℕ) → i < length order → out_of_turn ids order i ≡ false
  unfolding turns
  in_turn_lem i l =
      refuse_passed (out_of_turn ids order i) Code i
      (Refusals.Laws.passed (Refused.laws refused done) (λ k. refuse (out_of_turn ids order k) Code k) 0 (length order) (ap refused e) i (omega arith) (omega arith))

  -- each entry is a place
  pub place : (i : ℕ) → i < length order → place_at order i < length ids
  unfolding out_of_turn
  place i l =
      ltb-true (place_at order i) (length ids)
      (not_false (ltb (place_at order i) (length ids)) (or_split (not (ltb (place_at order i) (length ids))) (repeated order i i || goes_back ids order i) (in_turn_lem i l)).0)

  later : (i : ℕ) → i < length order → (repeated order i i ≡ false) × (goes_back ids order i ≡ false)
  unfolding out_of_turn
  later i l =
      or_split (repeated order i i) (goes_back ids order i)
      (or_split (not (ltb (place_at order i) (length ids))) (repeated order i i || goes_back ids order i) (in_turn_lem i l)).1

  -- none of the first n is the entry at i
  fresh : (i n : ℕ) → repeated order i n ≡ false → (j : ℕ) → j < n → place_at order j ≡ place_at order i → ⊥
  unfolding repeated
  fresh i zero f j l q = omega arith
  fresh i (suc n) f j l q =
      let p = or_split (eqb (place_at order n) (place_at order i)) (repeated order i n) f in
      ⊎_elim
      (λ (u : j ≡ n). eqb-false (place_at order n) (place_at order i) p.0 (rw u at q))
      (λ (u : j < n). fresh i n p.1 j u q)
      (eq-or-lt_of_le (omega arith))

  -- colours never go back
  climbs : (i d : ℕ) → i + d < length order → colour_at ids (place_at order i) ≤ colour_at ids (place_at order (i + d))
  climbs i zero l = rw (add-zero i) (omega arith)
  climbs i (suc d) l =
      let step : colour_at ids (place_at order (i + d)) ≤ colour_at ids (place_at order (suc (i + d))) =
      ltb-false (colour_at ids (place_at order (suc (i + d)))) (colour_at ids (place_at order (i + d))) (later (suc (i + d)) (omega arith)).1 in
      let e : i + suc d ≡ suc (i + d) = omega arith in
      rw e (omega (arith, climbs i d (omega arith), step))

  pub turning : length order ≡ length ids → InTurn (colour_at ids) (place_at order) colours (length ids)
  turning n =
      record {
        below = λ i l. place i (omega (arith, n));
        once = λ i j l u q. fresh j j (later j (omega (arith, n))).0 i l q;
        ascending = λ i j l u.
            let d : i + (j - i) ≡ j = omega arith in
            rw d at (climbs i (j - i) (omega (arith, n)));
        coloured = λ r l. rw plane.axes at (laws2.colours (get_or ids r 0));
      }

-- and any order that is one is let through
not_repeated : (order : List ℕ) (i n : ℕ) → ((j : ℕ) → j < n → place_at order j ≡ place_at order i → ⊥) → repeated order i n ≡ false
unfolding repeated
not_repeated order i zero f = refl
not_repeated order i (suc n) f =
    rw (ne_eqb (place_at order n) (place_at order i) (f n (omega arith))) (not_repeated order i n (λ j l. f j (omega arith)))

pub let_through : (ids order : List ℕ) → length order ≡ length ids → InTurn (colour_at ids) (place_at order) colours (length ids) → turns ids order ≡ done
unfolding turns out_of_turn
let_through ids order n turn =
    Refusals.Laws.none (Refused.laws refused done) (λ k. refuse (out_of_turn ids order k) Code k) 0 (length order)
    (λ i l u. ap (λ (b : Bool). refused (refuse b Code i)) (in_its_turn i (omega (arith, u, n))))
  where
    forward : (i : ℕ) → i < length ids → goes_back ids order i ≡ false
    forward zero l = refl
    forward (suc i) l = le-ltb (colour_at ids (place_at order (suc i))) (colour_at ids (place_at order i)) (turn.ascending i (suc i) (omega arith) l)

    in_its_turn : (i : ℕ) → i < length ids → (not (ltb (place_at order i) (length ids)) || (repeated order i i || goes_back ids order i)) ≡ false
    in_its_turn i l = rw (lt-ltb (place_at order i) (length ids) (turn.below i l), not_repeated order i i (λ j u. turn.once j i u l), forward i l)

-- the region of each entry is accepted, whatever the nodes hold
pub region_accepted : (order : List ℕ) (h dt : Float) (gravity : List Float) (regions : ℕ) (ids ranges : List ℕ) (count : ℕ) (particles s t : Store) (i : ℕ)
    → order_check order h dt gravity regions ids ranges count particles (length s.floats) (length s.words) ≡ done
    → length t.floats ≡ length s.floats → length t.words ≡ length s.words → i < length order
    → scatter_check (place_check (place_at order i) regions) h dt gravity regions ids ranges count particles (length t.floats) (length t.words) ≡ done
region_accepted order h dt gravity regions ids ranges count particles s t i e f w l =
    let turn = turned order h dt gravity regions ids ranges count particles (length s.floats) (length s.words) e in
    let counted = (ready done h dt gravity regions ids ranges count particles s.floats s.words (ap refused turn.accepted)).counted in
    let there : place_at order i < regions = omega (arith, place ids order turn.in_turn_lem i l, counted) in
    let own : place_check (place_at order i) regions ≡ done = rw (lt-ltb (place_at order i) regions there) in
    rw (f, w) (other_own done (place_check (place_at order i) regions) h dt gravity regions ids ranges count particles (length s.floats) (length s.words) turn.accepted own).1

-- what is behind the check of each may build on that of the order
pub turn_ready : (order : List ℕ) (h dt : Float) (gravity : List Float) (regions : ℕ) (ids ranges : List ℕ) (count : ℕ) (particles : Store) (nf : List Float) (nw : List ℕ)
    → order_check order h dt gravity regions ids ranges count particles (length nf) (length nw) ≡ done → ((i : ℕ) → i < length order → place_at order i < length ids) × Ready h ids ranges particles (store nf nw)
turn_ready order h dt gravity regions ids ranges count particles nf nw e =
    let turn = turned order h dt gravity regions ids ranges count particles (length nf) (length nw) e in
    (place ids order turn.in_turn_lem, (ready done h dt gravity regions ids ranges count particles nf nw (ap refused turn.accepted)).ready)

-- ---- one region more

pub one_more : (h dt : Float) (gravity : List Float) (ids ranges : List ℕ) (particles : Store) (order : List ℕ) (n : ℕ) (s t u : Store)
    → t ≡ in_order h dt gravity ids ranges particles order n s → u ≡ region_scattered h dt gravity ids ranges particles (place_at order n) t
    → u ≡ in_order h dt gravity ids ranges particles order (n + 1) s
unfolding in_order
one_more h dt gravity ids ranges particles order n s t u e f = f ∙ rw (e, add-one)
