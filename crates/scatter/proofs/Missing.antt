-- A node whose id is in no stencil of the particles that a scatter serves is hit by none, and keeps every bit. Assumes nothing.
use Rattle.std.proofs.Common.{◌≡◌, refl, sym, ap, ap₂, ◌∙◌, Bool, true, false, cond, List, [], ℕ, ◌+◌, ◌*◌, ◌/◌, ◌≤◌, ◌<◌, arith, Float, length, get_or, None, Option, Some}
use Rattle.packing.specs.Ids.{dim2, sum, region, number, cell_of, in_colour, packed_shifts, stencil_of}
use Rattle.packing.specs.Neighbours.{IsCell}
use Rattle.packing.proofs.Laws.{laws2, plane}
use Rattle.laws.specs.Store.{Store}
use Rattle.laws.specs.Hits.{In, only}
use Rattle.laws.proofs.Hits.{Elsewhere, in_gather, only_none}
use Rattle.cells.specs.Cells.{cell_associated_to_point}
use Rattle.cells.specs.Stencil.{stencil_cells}
use Rattle.grid.specs.Answers.{refused, done}
use Rattle.grid.specs.Nodes.{region_cells}
use Rattle.grid.specs.Table.{start_of, count_of}
use Rattle.grid.specs.declared.grid_node.GridNode.{GridNode}
use Rattle.particles.specs.Particles.{particle_at, position_of}
use Rattle.particles.specs.declared.particle.Particle.{Particle}
use Rattle.particles.specs.Places.{node_place}
use Rattle.particles.specs.Table.{Ready}
use Rattle.particles.proofs.Placing as Placing
use Rattle.scatter.specs.Hit.{changed}
use Rattle.scatter.specs.Scatter.{on_node, colours, shift_hits, particle_hits, range_hits, region_hits, coloured_hits, colour_hits, scatter_hits, scattered, region_scattered, place_check, stencil_id, node_id, Unreached}
use Rattle.scatter.proofs.Checking.{ready, region_ready}
use Rattle.scatter.proofs.Scattering.{scatter_laws, region_laws}

-- a cell's hit stands at the cell's own place: where its region is found, and by its number
on_other : (ids : List ℕ) (cell : ℕ) (change : GridNode → GridNode) (r c : ℕ) → IsCell dim2 cell → c < region_cells → (cell ≡ cell_of dim2 (get_or ids r 0) c → ⊥)
    → In (Elsewhere (r * region_cells + c)) (on_node (node_place ids cell) change)
on_other ids cell change r c is l other = go (node_place ids cell) refl
  where
    go : (f : Option ℕ) → node_place ids cell ≡ f → In (Elsewhere (r * region_cells + c)) (on_node f change)
    go (Some k) e = (
      λ same.
          let p = (Placing.laws ids).found cell k e in
          let own : k / region_cells ≡ r = omega (arith, same, l) in
          let n : number dim2 cell ≡ c = omega (arith, same, l, p.2) in
          let stands : region cell ≡ get_or ids r 0 = sym p.1 ∙ ap (λ (x : ℕ). get_or ids x 0) own in
          other (sym (laws2.rejoined is) ∙ ap₂ (cell_of dim2) stands n),
      tt,
    )
    go None e = tt

-- the id of the k-th cell of a particle's stencil
abbrev id_at : Float → Particle → ℕ → ℕ
id_at h q k = sum dim2 (cell_associated_to_point dim2 h (position_of q)) (get_or (packed_shifts dim2) k 0)

-- a particle whose stencil does not have that cell
abbrev Misses : Float → List ℕ → ℕ → ℕ → Particle → Type 0
Misses h ids r c q = (k : ℕ) → k < stencil_cells → id_at h q k ≡ node_id ids r c → ⊥

module _ (h : Float) (change : Particle → List ℕ → GridNode → GridNode) (ids : List ℕ) where
  by_particle : (q : Particle) (r c : ℕ) → c < region_cells → Misses h ids r c q → In (Elsewhere (r * region_cells + c)) (particle_hits h change ids q)
  unfolding particle_hits shift_hits
  by_particle q r c l other =
      in_gather (Elsewhere (r * region_cells + c)) (shift_hits h change ids q) stencil_cells
      (λ k u.
      let cell = cell_associated_to_point dim2 h (position_of q) in
      let e : get_or (stencil_of dim2 cell) k 0 ≡ id_at h q k = laws2.in_order cell k (rw (laws2.shifted, plane.shifts) u) in
      rw e (on_other ids (id_at h q k) _ r c (laws2.closed cell (get_or (packed_shifts dim2) k 0)) l (other k u)))

  module _ (ranges : List ℕ) (particles : Store) where
    by_region : (q r c : ℕ) → c < region_cells → ((p : ℕ) → start_of ranges q ≤ p → p < start_of ranges q + count_of ranges q → Misses h ids r c (particle_at particles p))
        → In (Elsewhere (r * region_cells + c)) (region_hits h change ids ranges particles q)
    unfolding region_hits range_hits
    by_region q r c l other =
        in_gather (Elsewhere (r * region_cells + c)) (λ j. particle_hits h change ids (particle_at particles (start_of ranges q + j))) (count_of ranges q)
        (λ j u. by_particle (particle_at particles (start_of ranges q + j)) r c l (other (start_of ranges q + j) (omega arith) (omega arith)))

    by_coloured : (colour q r c : ℕ) → c < region_cells → ((p : ℕ) → start_of ranges q ≤ p → p < start_of ranges q + count_of ranges q → Misses h ids r c (particle_at particles p))
        → In (Elsewhere (r * region_cells + c)) (coloured_hits h change ids ranges particles colour q)
    unfolding coloured_hits
    by_coloured colour q r c l other = go (in_colour dim2 (get_or ids q 0) colour)
      where
        go : (b : Bool) → In (Elsewhere (r * region_cells + c)) (cond b (region_hits h change ids ranges particles q) [])
        go true = by_region q r c l other
        go false = tt

-- Full scatter: a node that no particle's stencil has is hit by nothing.
missed : (h : Float) (change : Particle → List ℕ → GridNode → GridNode) (ids ranges : List ℕ) (particles s : Store) (ready : Ready h ids ranges particles s) (r c : ℕ) → c < region_cells
    → ((p k : ℕ) → p < ready.count → k < stencil_cells → stencil_id h particles p k ≡ node_id ids r c → ⊥)
    → only (r * region_cells + c) (scatter_hits h change ids ranges particles) ≡ []
unfolding scatter_hits colour_hits
missed h change ids ranges particles s ready r c l other =
    only_none (r * region_cells + c) (scatter_hits h change ids ranges particles)
    (in_gather (Elsewhere (r * region_cells + c)) (colour_hits h change ids ranges particles) colours
    (λ colour v. in_gather (Elsewhere (r * region_cells + c)) (coloured_hits h change ids ranges particles colour) (length ids)
    (λ q u. by_coloured h change ids ranges particles colour q r c l (λ p a b k. other p k (omega (arith, b, ready.accepted.covers.within q u))))))

-- One region's scatter: a node that the stencil of no particle of that region has.
region_missed : (h : Float) (change : Particle → List ℕ → GridNode → GridNode) (ids ranges : List ℕ) (particles : Store) (q r c : ℕ) → c < region_cells
    → ((p k : ℕ) → start_of ranges q ≤ p → p < start_of ranges q + count_of ranges q → k < stencil_cells → stencil_id h particles p k ≡ node_id ids r c → ⊥)
    → only (r * region_cells + c) (region_hits h change ids ranges particles q) ≡ []
region_missed h change ids ranges particles q r c l other =
    only_none (r * region_cells + c) (region_hits h change ids ranges particles q) (by_region h change ids ranges particles q r c l (λ p a b k. other p k a b))

pub unreached : Unreached
unfolding scattered region_scattered
unreached = record {
  full = λ h dt gravity regions ids ranges count particles s e r c u other.
      let q = ready done h dt gravity regions ids ranges count particles s.floats s.words (ap refused e) in
      (scatter_laws h (changed h dt gravity) ids ranges particles s q.ready).untouched (r * region_cells + c)
      (missed h (changed h dt gravity) ids ranges particles s q.ready r c u (λ p k v. other p k (omega (arith, v, q.held.floats_long, q.ready.particles_held.floats_long))));
  region = λ place h dt gravity regions ids ranges count particles s e r c u other.
      let q = region_ready place (place_check place regions) done h dt gravity regions ids ranges count particles s.floats s.words refl (sym e) refl in
      (region_laws h (changed h dt gravity) ids ranges particles s q.1.ready place q.0).untouched (r * region_cells + c)
      (region_missed h (changed h dt gravity) ids ranges particles place r c u other);
}
