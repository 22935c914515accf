-- Demand 3, about the calls. Assumes nothing.
use Rattle.std.proofs.Common.{Ok, Err, ◌≡◌, refl, sym, ap, ◌∙◌, Bool, true, false, cond, List, [], ◌∷◌, ◌++◌, ℕ, zero, suc, ◌*◌, ◌≤◌, arith, length}
use Rattle.laws.specs.Store.{Store, Holds}
use Rattle.laws.specs.Refusals.{settle}
use Rattle.grid.specs.Answers.{refused, Answer, done}
use Rattle.grid.specs.Nodes.{node_form, region_cells}
use Rattle.particles.proofs.Staging.{Staged, still_ready}
use Rattle.scatter.specs.Hit.{changed}
use Rattle.scatter.specs.Scatter.{region_scattered}
use Rattle.scatter.proofs.Checking.{ready}
use Rattle.scatter.proofs.Scattering.{region_laws}
use Rattle.solver.specs.Order.{place_at, turns, order_check, in_order}
use Rattle.solver.specs.Calls.{Call, Scatter, answer, made, left, after, accepted}
use Rattle.solver.specs.Calls.Call.{scattering, scattering_region, scattering_in_order}
use Rattle.solver.specs.OneByOne.{one_by_one, Turns, Demand3}
use Rattle.solver.proofs.Ordering.{same_bits}
use Rattle.solver.proofs.Turning.{Turned, turned, turning, let_through, then_scatter, region_accepted, place}

-- ---- lists of calls

module _ (ids : List ℕ) where
  after_more : (xs : List Call) (y : Call) (s : Store) → after ids (xs ++ (y ∷ [])) s ≡ left ids y (after ids xs s)
  unfolding after
  after_more [] y s = refl
  after_more (x ∷ xs) y s = after_more xs y (left ids x s)

  left_done : (x : Call) (s : Store) → answer ids x s ≡ done → left ids x s ≡ made ids x s
  unfolding left
  left_done x s e = rw e

  -- what is refused leaves nothing behind
  only_accepted : (xs : List Call) (s : Store) → after ids xs s ≡ after ids (accepted ids xs s) s
  unfolding after accepted left
  only_accepted [] s = refl
  only_accepted (x ∷ xs) s = go (answer ids x s) refl (only_accepted xs)
    where
      go : (a : Answer) → answer ids x s ≡ a → ((t : Store) → after ids xs t ≡ after ids (accepted ids xs t) t)
          → let t = settle (refused a) s (made ids x s) in after ids xs t ≡ after ids (cond (refused a) (accepted ids xs t) (x ∷ accepted ids xs t)) s
      go (Ok u) e later = later (made ids x s) ∙ ap (after ids (accepted ids xs (made ids x s))) (sym (left_done x s e))
      go (Err x) e later = later s

  accepted_more : (xs : List Call) (y : Call) (s : Store) → answer ids y (after ids xs s) ≡ done → accepted ids (xs ++ (y ∷ [])) s ≡ accepted ids xs s ++ (y ∷ [])
  unfolding after accepted
  accepted_more [] y s d = rw d
  accepted_more (x ∷ xs) y s d = rw (accepted_more xs y (left ids x s) d) (go (refused (answer ids x s)))
    where
      go : (b : Bool) → cond b (accepted ids xs (left ids x s) ++ (y ∷ [])) (x ∷ (accepted ids xs (left ids x s) ++ (y ∷ []))) ≡ cond b (accepted ids xs (left ids x s)) (x ∷ accepted ids xs (left ids x s)) ++ (y ∷ [])
      go true = refl
      go false = refl

-- ---- the regions' own

module _ (ids order : List ℕ) (c : Scatter) (s : Store) (full : answer ids (scattering c) s ≡ done) (turns-so : Turns ids order) where
  in_turn_lem : turns ids order ≡ done
  in_turn_lem = let_through ids order turns-so.as_long turns-so.in_turn_lem

  shown : Staged done c.h c.regions ids c.ranges c.count c.particles s
  shown = ready done c.h c.dt c.gravity c.regions ids c.ranges c.count c.particles s.floats s.words (ap refused full)

  as_long : length order ≡ c.regions
  as_long = turns-so.as_long ∙ shown.counted

  ordered : order_check order c.h c.dt c.gravity c.regions ids c.ranges c.count c.particles (length s.floats) (length s.words) ≡ done
  ordered = then_scatter order c.h c.dt c.gravity c.regions ids c.ranges c.count c.particles (length s.floats) (length s.words) as_long in_turn_lem full

  -- what the first n leave, of as many nodes as before, and that the next one is accepted
  record SoFar (n : ℕ) : Type 0 where
    same : after ids (one_by_one c order n) s ≡ in_order c.h c.dt c.gravity ids c.ranges c.particles order n s
    held : Holds node_form (in_order c.h c.dt c.gravity ids c.ranges c.particles order n s) (length ids * region_cells)
    each : accepted ids (one_by_one c order n) s ≡ one_by_one c order n

  so_far : (n : ℕ) → n ≤ length order → SoFar n
  unfolding in_order after left region_scattered accepted
  so_far zero l = record { same = refl; held = shown.ready.nodes_held; each = refl }
  so_far (suc n) l =
      let f = so_far n (omega (arith, l)) in
      let t = in_order c.h c.dt c.gravity ids c.ranges c.particles order n s in
      let u = still_ready c.h ids c.ranges c.particles s t shown.ready f.held in
      let next = scattering_region (place_at order n) c in
      let room = shown.ready.nodes_held in
      let done : answer ids next t ≡ done =
      region_accepted order c.h c.dt c.gravity c.regions ids c.ranges c.count c.particles s t n ordered
      (f.held.floats_long ∙ sym room.floats_long) (f.held.words_long ∙ sym room.words_long) (omega (arith, l)) in
      record {
        same = after_more ids (one_by_one c order n) next s ∙ rw (f.same, done) refl;
        held = (region_laws c.h (changed c.h c.dt c.gravity) ids c.ranges c.particles t u (place_at order n) (place ids order in_turn_lem n (omega (arith, l)))).held;
        each = accepted_more ids (one_by_one c order n) next s (rw f.same done) ∙ rw f.each;
      }

  whole : SoFar (length order)
  whole = so_far (length order) (omega arith)

  left_by_all : after ids (one_by_one c order (length order)) s ≡ left ids (scattering c) s
  unfolding left
  left_by_all =
      whole.same
      ∙ same_bits order c.h c.dt c.gravity c.regions ids c.ranges c.count c.particles s full as_long in_turn_lem
      ∙ rw full

-- ---- all of them in one call

module _ (ids order : List ℕ) (c : Scatter) (s : Store) (one : answer ids (scattering_in_order order c) s ≡ done) where
  the_order : Turned order c.h c.dt c.gravity c.regions ids c.ranges c.count c.particles (length s.floats) (length s.words)
  the_order = turned order c.h c.dt c.gravity c.regions ids c.ranges c.count c.particles (length s.floats) (length s.words) one

  such : Turns ids order
  such =
      let counted = (ready done c.h c.dt c.gravity c.regions ids c.ranges c.count c.particles s.floats s.words (ap refused the_order.accepted)).counted in
      let long = the_order.as_long ∙ sym counted in
      record { as_long = long; in_turn_lem = turning ids order the_order.in_turn_lem long }

  leaves : left ids (scattering_in_order order c) s ≡ left ids (scattering c) s
  unfolding left
  leaves = rw (one, the_order.accepted)

pub demand3 : Demand3
demand3 =
    record {
      same_bits = λ ids order c calls s full t e. only_accepted ids calls s ∙ rw e (left_by_all ids order c s full t);
      each_accepted = λ ids order c s full t. (whole ids order c s full t).each;
      in_one = λ ids order c s. (λ one. ((the_order ids order c s one).accepted, such ids order c s one), λ (full, t). ordered ids order c s full t);
      in_one_left = leaves;
    }
