-- What the update leaves: each node as its own update makes it. Assumes nothing.
use Rattle.std.proofs.Common.{◌≡◌, refl, sym, ap, ◌∙◌, subst, List, [], ◌∷◌, ℕ, ◌+◌, ◌*◌, ◌<◌, arith, Float, length, eq-eqb}
use Rattle.laws.specs.Store.{Store, Holds}
use Rattle.laws.specs.Hits.{Within, only, along, run}
use Rattle.laws.proofs.Hits as Hits
use Rattle.grid.specs.Nodes.{node_form, node_at, nodes, region_cells, reads, stores}
use Rattle.grid.proofs.Changing.{kept}
use Rattle.update.specs.Boundary.{handling_of, known_or}
use Rattle.update.specs.Update.{updated_node, updated_cell, region_updates, updates, updated, Zero, Laws}
use Rattle.update.specs.declared.grid_update.BoundaryHandling.{BoundaryHandling}
use Rattle.update.specs.declared.grid_update.BoundaryHandling.TheVariants.{None}
use Rattle.update.proofs.Keeping.{updated_zero}

module _ (handling : BoundaryHandling) (h dt : Float) (colliders : List Float) (projections : Store) (locks : ℕ) (ids : List ℕ) (count : ℕ) where
  within : Within (length ids * region_cells) (updates handling h dt colliders projections locks ids count)
  unfolding updates region_updates
  within =
      let n = length ids * region_cells in
      Hits.in_gather (λ k. k < n) (region_updates handling h dt colliders projections locks ids count) (length ids)
      (λ r l. Hits.in_gather (λ k. k < n) (updated_cell handling h dt colliders projections locks ids count r) region_cells (λ c u. (omega arith, tt)))

  -- the place of a cell is hit once, by the cell's own update
  its_own : (r c : ℕ) → only (r * region_cells + c) (updated_cell handling h dt colliders projections locks ids count r c) ≡ updated_node handling h dt colliders projections locks ids count r c ∷ []
  unfolding only
  its_own r c = rw (eq-eqb (r * region_cells + c) (r * region_cells + c) refl)

  once : (r c : ℕ) → r < length ids → c < region_cells
      → only (r * region_cells + c) (updates handling h dt colliders projections locks ids count) ≡ updated_node handling h dt colliders projections locks ids count r c ∷ []
  unfolding updates region_updates
  once r c l u =
      let cells = updated_cell handling h dt colliders projections locks ids count in
      Hits.only_one (r * region_cells + c) (region_updates handling h dt colliders projections locks ids count) (length ids) r l
      (λ q v ne. Hits.in_gather (Hits.Elsewhere (r * region_cells + c)) (cells q) region_cells (λ d w. (λ e. omega arith, tt)))
      ∙ Hits.only_one (r * region_cells + c) (cells r) region_cells c u (λ d w ne. (λ e. omega arith, tt))
      ∙ its_own r c

pub laws : (h dt : Float) (code locks : ℕ) (ids : List ℕ) (count : ℕ) (colliders : List Float) (projections s : Store)
    (nodes_held : Holds node_form s (length ids * region_cells)) → Laws h dt code locks ids count colliders projections s nodes_held
unfolding updated along
laws h dt code locks ids count colliders projections s held =
    let n = length ids * region_cells in
    let handling = known_or None (handling_of code) in
    let hits = updates handling h dt colliders projections locks ids count in
    let ok = (stores s n).0 held in
    let inside = within handling h dt colliders projections locks ids count in
    let node : (r c : ℕ) → r < length ids → c < region_cells
    → node_at (run nodes hits s) (r * region_cells + c) ≡ updated_node handling h dt colliders projections locks ids count r c (node_at s (r * region_cells + c))
    = λ r c l u.
    let k = r * region_cells + c in
    sym (reads (run nodes hits s) k)
    ∙ (Hits.laws nodes kept).each hits s n k ok inside
    ∙ rw (once handling h dt colliders projections locks ids count r c l u) (ap (updated_node handling h dt colliders projections locks ids count r c) (reads s k)) in
    record {
      each = node;
      zero_stays = λ r c l u z. subst Zero (sym (node r c l u)) (updated_zero handling h dt colliders projections locks ids count r c (node_at s (r * region_cells + c)) z);
      held = (stores (run nodes hits s) n).1 ((Hits.laws nodes kept).ok hits s n ok inside);
    }
