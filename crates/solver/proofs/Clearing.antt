-- Demand 2's last sentence: a node that no stencil reached after clearing is still zero after the update. Assumes nothing.
use Rattle.std.proofs.Common.{Ok, Err, ◌≡◌, refl, sym, ap, ap₂, ◌∙◌, subst, inl, inr, List, [], ◌∷◌, ℕ, ◌+◌, ◌*◌, ◌<◌, arith, Float, length}
use Rattle.laws.specs.Store.{Store, Holds}
use Rattle.laws.specs.Refusals.{settle}
use Rattle.cells.specs.Stencil.{stencil_cells}
use Rattle.grid.specs.Answers.{refused, Answer, done}
use Rattle.grid.specs.Nodes.{node_form, node_at, region_cells}
use Rattle.grid.specs.Clear.{clear_check, cleared}
use Rattle.grid.proofs.Emptying as Emptying
use Rattle.grid.proofs.Lengths.{clear_held}
use Rattle.particles.specs.Table.{Ready}
use Rattle.particles.proofs.Staging.{still_ready}
use Rattle.scatter.specs.Hit.{changed}
use Rattle.scatter.specs.Scatter.{scattered, region_scattered, place_check, scatter_check, stencil_id, node_id}
use Rattle.scatter.proofs.Checking.{ready, region_ready}
use Rattle.scatter.proofs.Clearing.{counted}
use Rattle.scatter.proofs.Missing.{unreached}
use Rattle.scatter.proofs.Scattering.{scatter_laws, region_laws}
use Rattle.update.specs.Update.{updated, update_check, Zero}
use Rattle.update.proofs.Updating as Updating
use Rattle.fluids.specs.Fluids.{nodes_after, fluids_check}
use Rattle.fluids.proofs.Recomputing as Recomputing
use Rattle.solver.specs.Step.{step_check, stepped}
use Rattle.solver.specs.Calls.{Call, Scatter, Fluids, answer, made, left, after}
use Rattle.solver.specs.Clearing.{Reaches, Reached, EmptyElsewhere, Demand2}
use Rattle.solver.specs.Calls.Call.{clearing, scattering, scattering_region, scattering_in_order, updating, in_turn, gathering_first, gathering_second, recomputing}
use Rattle.solver.proofs.Stepping.{apart_done, step_done}
use Rattle.solver.proofs.Turning.{turned}

module _ (ids : List ℕ) (r c : ℕ) (l : r < length ids) (u : c < region_cells) where
  -- nodes of the list's regions, of which the one at hand is zero
  record Kept (s : Store) : Type 0 where
    held : Holds node_form s (length ids * region_cells)
    zero : Zero (node_at s (r * region_cells + c))

  -- the nodes just cleared
  kept_clear : (regions : ℕ) (s : Store) → clear_check regions ids (length s.floats) (length s.words) ≡ done → Kept (cleared regions s)
  kept_clear regions s e =
      let n = counted regions ids (length s.floats) (length s.words) e in
      let laws = Emptying.laws regions s (clear_held regions ids s.floats s.words (ap refused e)) in
      record {
        held = rw n laws.holds;
        zero = subst Zero (sym (laws.each (r * region_cells + c) (omega (arith, n, l, u)))) (record { mass = refl; momentum = refl; velocity = refl });
      }

  kept_scatter : (g : Scatter) (s : Store) → Kept s
      → scatter_check done g.h g.dt g.gravity g.regions ids g.ranges g.count g.particles (length s.floats) (length s.words) ≡ done
      → ((p k : ℕ) → p < g.count → k < stencil_cells → stencil_id g.h g.particles p k ≡ node_id ids r c → ⊥)
      → Kept (scattered g.h g.dt g.gravity ids g.ranges g.particles s)
  unfolding scattered
  kept_scatter g s kept e other =
      let q = ready done g.h g.dt g.gravity g.regions ids g.ranges g.count g.particles s.floats s.words (ap refused e) in
      record {
        held = (scatter_laws g.h (changed g.h g.dt g.gravity) ids g.ranges g.particles s q.ready).held;
        zero = subst Zero (sym (unreached.full g.h g.dt g.gravity g.regions ids g.ranges g.count g.particles s e r c u other)) kept.zero;
      }

  kept_update : (h dt : Float) (code locks count : ℕ) (colliders : List Float) (projections s : Store) → Kept s → Kept (updated h dt code locks ids count colliders projections s)
  kept_update h dt code locks count colliders projections s kept =
      let laws = Updating.laws h dt code locks ids count colliders projections s kept.held in
      record { held = laws.held; zero = laws.zero_stays r c l u kept.zero }

  -- fluids leave every node as it was but for its mass, which is +0
  kept_fluids : (g : Fluids) (s : Store) → Kept s → fluids_check g.h g.regions ids g.ranges g.count g.particles (length s.floats) (length s.words) ≡ done
      → Kept (nodes_after g.h ids g.ranges g.count g.particles s)
  kept_fluids g s kept e =
      let q = Recomputing.ready g.h g.regions ids g.ranges g.count g.particles s.floats s.words (ap refused e) in
      let laws = Recomputing.laws g.h g.regions ids g.ranges g.count g.particles s q in
      record {
        held = laws.nodes_held;
        zero = subst Zero (sym (laws.nodes_left (r * region_cells + c) (omega (arith, l, u)))) (record { mass = refl; momentum = kept.zero.momentum; velocity = kept.zero.velocity });
      }

-- what is asked of the nodes' lengths alone holds of as many other nodes
other_nodes : (check : ℕ → ℕ → Answer) (s t : Store) (n : ℕ) → Holds node_form s n → Holds node_form t n
    → check (length s.floats) (length s.words) ≡ done → check (length t.floats) (length t.words) ≡ done
other_nodes check s t n p q e = ap₂ check (q.floats_long ∙ sym p.floats_long) (q.words_long ∙ sym p.words_long) ∙ e

-- ---- the three in turn

module _ (h dt : Float) (gravity : List Float) (code locks regions : ℕ) (ids ranges : List ℕ) (count : ℕ) (particles : Store) (colliders : ℕ) (frictions : List Float) (projections s : Store)
    (e : step_check h dt gravity code locks regions ids ranges count particles colliders frictions projections (length s.floats) (length s.words) ≡ done) where
  abbrev places : ℕ
  places = length ids * region_cells

  abbrev empty : Store
  empty = cleared regions s

  abbrev full : Store
  full = scattered h dt gravity ids ranges particles empty

  three : (clear_check regions ids (length s.floats) (length s.words) ≡ done)
      × (scatter_check done h dt gravity regions ids ranges count particles (length s.floats) (length s.words) ≡ done)
      × (update_check h dt code locks regions ids colliders frictions projections (length s.floats) (length s.words) ≡ done)
  three = apart_done h dt gravity code locks regions ids ranges count particles colliders frictions projections (length s.floats) (length s.words) e

  pub clear_done : clear_check regions ids (length s.floats) (length s.words) ≡ done
  clear_done = three.0

  -- as many nodes each time
  room : Holds node_form s places
  room = rw (counted regions ids (length s.floats) (length s.words) clear_done) (clear_held regions ids s.floats s.words (ap refused clear_done))

  empty_room : Holds node_form empty places
  empty_room =
      let n = counted regions ids (length s.floats) (length s.words) clear_done in
      rw n (Emptying.laws regions s (rw n at room)).holds

  -- so each is accepted
  scatter_done : scatter_check done h dt gravity regions ids ranges count particles (length empty.floats) (length empty.words) ≡ done
  scatter_done = other_nodes (scatter_check done h dt gravity regions ids ranges count particles) s empty places room empty_room three.1

  -- what is behind the scatter's check may build on it, of as many nodes
  pub scatter_ready : Ready h ids ranges particles s
  scatter_ready = (ready done h dt gravity regions ids ranges count particles s.floats s.words (ap refused three.1)).ready

  full_room : Holds node_form full places
  unfolding scattered
  full_room = (scatter_laws h (changed h dt gravity) ids ranges particles empty (still_ready h ids ranges particles s empty scatter_ready empty_room)).held

  update_done : update_check h dt code locks regions ids colliders frictions projections (length full.floats) (length full.words) ≡ done
  update_done = other_nodes (update_check h dt code locks regions ids colliders frictions projections) s full places room full_room three.2

  kept_step : (r c : ℕ) (l : r < length ids) (u : c < region_cells)
      → ((p k : ℕ) → p < count → k < stencil_cells → stencil_id h particles p k ≡ node_id ids r c → ⊥)
      → Kept ids r c l u (stepped h dt gravity code locks regions ids ranges count particles colliders frictions projections s)
  unfolding stepped
  kept_step r c l u other =
      let g : Scatter = record { h = h; dt = dt; gravity = gravity; regions = regions; ranges = ranges; count = count; particles = particles } in
      kept_update ids r c l u h dt code locks colliders frictions projections full
      (kept_scatter ids r c l u g empty (kept_clear ids r c l u regions s clear_done) scatter_done other)

  pub step : EmptyElsewhere h ids count particles (stepped h dt gravity code locks regions ids ranges count particles colliders frictions projections s)
  step r c l u other = (kept_step r c l u other).zero

  -- the calls by their contracts, of which the first is done
  pub in_turn_lem : (t u v : Store) (a d : Answer) → a ≡ done → t ≡ settle (refused a) s (cleared regions s) → u ≡ scattered h dt gravity ids ranges particles t
      → d ≡ update_check h dt code locks regions ids colliders frictions projections (length u.floats) (length u.words)
      → v ≡ settle (refused d) u (updated h dt code locks ids colliders frictions projections u)
      → (d ≡ done) × (v ≡ stepped h dt gravity code locks regions ids ranges count particles colliders frictions projections s)
  unfolding stepped
  in_turn_lem t u v a d p clears scatters w updates =
      let first : t ≡ empty = clears ∙ rw p in
      let second : u ≡ full = scatters ∙ rw first in
      let third : d ≡ done = w ∙ rw second update_done in
      (third, updates ∙ rw (third, second))

-- ---- any of the calls

module _ (ids : List ℕ) (r c : ℕ) (l : r < length ids) (u : c < region_cells) where
  -- a call that is accepted and does not reach the node
  kept_made : (call : Call) (s : Store) → Kept ids r c l u s → answer ids call s ≡ done → (Reaches ids s call (node_id ids r c) → ⊥) → Kept ids r c l u (made ids call s)
  unfolding region_scattered
  kept_made (clearing regions) s kept e other = kept_clear ids r c l u regions s e
  kept_made (scattering g) s kept e other =
      kept_scatter ids r c l u g s kept e (λ p k v w i. other (record { accepted = e; particle = p; shift = k; served = v; within = w; there = i }))
  kept_made (scattering_region place g) s kept e other =
      let q = region_ready place (place_check place g.regions) done g.h g.dt g.gravity g.regions ids g.ranges g.count g.particles s.floats s.words refl (sym e) refl in
      record {
        held = (region_laws g.h (changed g.h g.dt g.gravity) ids g.ranges g.particles s q.1.ready place q.0).held;
        zero = subst Zero
            (sym
            (unreached.region place g.h g.dt g.gravity g.regions ids g.ranges g.count g.particles s e r c u
            (λ p k v w x i. other (record { accepted = e; particle = p; shift = k; served = (v, w); within = x; there = i }))))
            kept.zero;
      }
  kept_made (scattering_in_order order g) s kept e other =
      kept_scatter ids r c l u g s kept
      (turned order g.h g.dt g.gravity g.regions ids g.ranges g.count g.particles (length s.floats) (length s.words) e).accepted
      (λ p k v w i. other (record { accepted = e; particle = p; shift = k; served = v; within = w; there = i }))
  kept_made (updating g) s kept e other = kept_update ids r c l u g.h g.dt g.code g.locks g.count g.colliders g.projections s kept
  kept_made (in_turn g code locks count colliders projections) s kept e other =
      kept_step g.h g.dt g.gravity code locks g.regions ids g.ranges g.count g.particles count colliders projections s e r c l u
      (λ p k v w i. other (record { accepted = e; particle = p; shift = k; served = v; within = w; there = i }))
  kept_made (gathering_first g) s kept e other = kept
  kept_made (gathering_second g) s kept e other = kept
  kept_made (recomputing g) s kept e other = kept_fluids ids r c l u g s kept e

  -- refused or not
  kept_left : (call : Call) (s : Store) → Kept ids r c l u s → (Reaches ids s call (node_id ids r c) → ⊥) → Kept ids r c l u (left ids call s)
  unfolding left
  kept_left call s kept other = go (answer ids call s) refl
    where
      go : (a : Answer) → answer ids call s ≡ a → Kept ids r c l u (settle (refused a) s (made ids call s))
      go (Ok u) e = kept_made call s kept e other
      go (Err x) e = kept

  kept_after : (calls : List Call) (s : Store) → Kept ids r c l u s → (Reached ids calls s (node_id ids r c) → ⊥) → Kept ids r c l u (after ids calls s)
  unfolding after
  kept_after [] s kept other = kept
  kept_after (call ∷ later) s kept other = kept_after later (left ids call s) (kept_left call s kept (λ x. other (inl x))) (λ x. other (inr x))

pub demand2 : Demand2
demand2 =
    record {
      unreached = λ regions ids calls s r c e l u other. (kept_after ids r c l u calls (cleared regions s) (kept_clear ids r c l u regions s e) other).zero;
      accepted = λ h dt gravity code locks regions ids ranges count particles colliders frictions projections nf nw. (
        apart_done h dt gravity code locks regions ids ranges count particles colliders frictions projections nf nw,
        λ p. step_done h dt gravity code locks regions ids ranges count particles colliders frictions projections nf nw p.1 p.2,
      );
      step = step;
    }
