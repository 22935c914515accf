-- The regions' scatters in an order in which each stands once and colours come in turn leave what the full scatter leaves. Assumes nothing.
use Rattle.std.proofs.Common.{◌≡◌, refl, sym, ap, ◌∙◌, List, ℕ, zero, suc, ◌*◌, add-one, Float, length}
use Rattle.laws.specs.Store.{Store}
use Rattle.laws.specs.Hits.{run, gather}
use Rattle.laws.proofs.Hits.{run_none, run_more}
use Rattle.laws.proofs.Orders.{laws}
use Rattle.grid.specs.Answers.{refused, done}
use Rattle.grid.specs.Nodes.{nodes, region_cells, stores}
use Rattle.grid.proofs.Changing.{kept}
use Rattle.scatter.specs.Hit.{changed}
use Rattle.scatter.specs.Scatter.{colours, region_hits, coloured_hits, colour_hits, scatter_hits, scattered, region_scattered, scatter_check}
use Rattle.scatter.proofs.Checking.{ready}
use Rattle.scatter.proofs.Reaching.{HitBy, by_region, within_list, apart}
use Rattle.solver.specs.Order.{place_at, colour_at, turns, in_order, Laws}
use Rattle.solver.proofs.Turning.{turning, let_through, region_accepted}

-- ---- the calls, one after the other, are their regions' hits

module _ (h dt : Float) (gravity : List Float) (ids ranges : List ℕ) (particles : Store) (order : List ℕ) where
  gathered : (n : ℕ) (s : Store) → in_order h dt gravity ids ranges particles order n s ≡ run nodes (gather (λ i. region_hits h (changed h dt gravity) ids ranges particles (place_at order i)) n) s
  unfolding in_order region_scattered
  gathered zero s = run_none nodes (λ i. region_hits h (changed h dt gravity) ids ranges particles (place_at order i)) s
  gathered (suc n) s =
      rw add-one at (run_more nodes (λ i. region_hits h (changed h dt gravity) ids ranges particles (place_at order i)) n s (gathered n s) refl)

pub same_bits : (order : List ℕ) (h dt : Float) (gravity : List Float) (regions : ℕ) (ids ranges : List ℕ) (count : ℕ) (particles s : Store)
    → scatter_check done h dt gravity regions ids ranges count particles (length s.floats) (length s.words) ≡ done
    → length order ≡ regions → turns ids order ≡ done
    → in_order h dt gravity ids ranges particles order (length order) s ≡ scattered h dt gravity ids ranges particles s
unfolding scattered scatter_hits colour_hits coloured_hits
same_bits order h dt gravity regions ids ranges count particles s accepted long e =
    let r = ready done h dt gravity regions ids ranges count particles s.floats s.words (ap refused accepted) in
    let n : length order ≡ length ids = long ∙ sym r.counted in
    gathered h dt gravity ids ranges particles order (length order) s
    ∙ rw n
    ((laws nodes kept).in_turn_lem (colour_at ids) (place_at order) (region_hits h (changed h dt gravity) ids ranges particles) (HitBy h (changed h dt gravity) ids ranges particles s r.ready) colours (length ids)
    (length ids * region_cells) s (turning ids order e n) ((stores s (length ids * region_cells)).0 r.ready.nodes_held)
    (within_list h (changed h dt gravity) ids ranges particles s r.ready) (by_region h (changed h dt gravity) ids ranges particles s r.ready) (apart h (changed h dt gravity) ids ranges particles s r.ready))

pub order_laws : Laws
order_laws = record { turn = λ ids order n e. turning ids order e n; every_turn = let_through; same_bits = same_bits; each_accepted = region_accepted }
