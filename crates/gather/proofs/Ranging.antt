-- What the particles of a region may build on while they are changed one after the other: those that are not changed yet stand where they stood. Assumes nothing.
use Rattle.std.proofs.Common.{◌≡◌, ℕ, ◌+◌, ◌<◌, ◌≤◌, List, length, get_or, sym, ap, ◌∙◌, subst, arith}
use Rattle.std.specs.Prelude.{Float}
use Rattle.packing.specs.Ids.{dim2, region}
use Rattle.laws.specs.Store.{Store, Holds}
use Rattle.laws.specs.Hits.{run, gather, change_at}
use Rattle.laws.proofs.Hits as Hits
use Rattle.cells.specs.Cells.{cell_associated_to_point, region_associated_to_point}
use Rattle.grid.specs.Table.{before, start_of, count_of}
use Rattle.particles.specs.Blocks.{block_cells, IsBlock, corner_of}
use Rattle.particles.specs.Particles.{particle_form, particle_at, particles, position_of, reads, stores}
use Rattle.particles.specs.Table.{Ready, OnGrid, Reached}
use Rattle.particles.specs.declared.particle.Particle.{Particle}
use Rattle.particles.proofs.Blocking as Blocking
use Rattle.gather.specs.Gather.{Serves, Ranged, changes_from}
use Rattle.gather.proofs.Gathering.{kept}

-- a particle that is changed at no place is as it was
untouched : (change : ℕ → Particle → Particle) (at : ℕ → ℕ) (s : Store) (n i p : ℕ) → Holds particle_form s n → ((j : ℕ) → j < i → (at j < n) × (at j ≡ p → ⊥))
    → particle_at (run particles (gather (λ (j : ℕ). change_at change (at j)) i) s) p ≡ particle_at s p
untouched change at s n i p held apart =
    sym (reads (run particles (gather (λ (j : ℕ). change_at change (at j)) i) s) p)
    ∙ Hits.changes_elsewhere particles kept change at s n i p ((stores s n).0 held) apart
    ∙ reads s p

-- of a region's particles the first i are changed
module _ {h : Float} {ids : List ℕ} {r start count : ℕ} {s₀ nodes : Store} (ranged : Ranged h ids r start count s₀ nodes) where
  -- the next one stands as it stood
  module _ (change : Particle → Particle) (i : ℕ) (l : i < count) {s : Store} {q : Particle} (e : s ≡ run particles (changes_from change start i) s₀) (at : q ≡ particle_at s (start + i)) where
    stood : q ≡ particle_at s₀ (start + i)
    stood =
        at
        ∙ ap (λ (t : Store). particle_at t (start + i)) e
        ∙ untouched (λ (p : ℕ). change) (λ (j : ℕ). start + j) s₀ ranged.all i (start + i) ranged.particles_held (λ j u. (omega (arith, ranged.within), λ same. omega arith))

    -- so it is in the region
    pub own : region (cell_associated_to_point dim2 h (position_of q)) ≡ r
    unfolding region_associated_to_point
    own = ap (λ (p : Particle). region (cell_associated_to_point dim2 h (position_of p))) stood ∙ ranged.in_region (start + i) (omega arith) (omega arith)

    -- on the grid
    pub on : OnGrid h q
    on = subst (OnGrid h) (sym stood) (ranged.on_grid_lem (start + i) (omega arith) (omega arith))

    -- and the block of its region has a node for each cell of its stencil
    pub serves : (block : List ℕ) → IsBlock ids r block → length block ≡ block_cells → Serves block (corner_of h q) nodes
    serves block is long =
        let held = ranged.nodes_held in
        record {
          there = Blocking.all_there ids r block is h q own (subst (Reached h ids) (sym stood) (ranged.stencils (start + i) (omega arith) (omega arith)));
          places = λ k. omega (arith, (Blocking.laws ids r block is).places long k, held.words_long);
          held = record { floats_long = omega (arith, held.floats_long, held.words_long); words_long = omega arith };
        }

-- the regions before r are changed
pub next_region : {h : Float} {ids ranges : List ℕ} {s₀ s nodes : Store} (ready : Ready h ids ranges s₀ nodes) (change : Particle → Particle) (r : ℕ) → r < length ids
    → s ≡ run particles (gather (change_at (λ (p : ℕ). change)) (before ranges r)) s₀ → Ranged h ids (get_or ids r 0) (start_of ranges r) (count_of ranges r) s nodes
next_region {h} {ids} {ranges} {s₀} {s} {nodes} ready change r l e =
    let n = ready.count in
    let covers = ready.accepted.covers in
    let b : start_of ranges r ≡ before ranges r = covers.begins r l in
    let w : start_of ranges r + count_of ranges r ≤ n = covers.within r l in
    let done = run particles (gather (change_at (λ (p : ℕ). change)) (before ranges r)) s₀ in
    let stood : (p : ℕ) → start_of ranges r ≤ p → particle_at s p ≡ particle_at s₀ p
    = λ p u. ap (λ (t : Store). particle_at t p) e ∙ untouched (λ (i : ℕ). change) (λ (j : ℕ). j) s₀ n (before ranges r) p ready.particles_held (λ j x. (omega arith, λ same. omega arith)) in
    let held : Holds particle_form done n
    = (stores done n).1 (Hits.run_ok particles kept (gather (change_at (λ (p : ℕ). change)) (before ranges r)) s₀ n ((stores s₀ n).0 ready.particles_held) (Hits.changes_within particles kept (λ (p : ℕ). change) n (before ranges r) (omega arith))) in
    record {
      all = n;
      whole = ready.accepted.regions.whole r l;
      particles_held = rw e held;
      nodes_held = ready.nodes_held;
      within = w;
      in_region = λ p u v. ap (λ (q : Particle). region_associated_to_point dim2 h (position_of q)) (stood p u) ∙ ready.accepted.in_region r l p u v;
      on_grid_lem = λ p u v. subst (OnGrid h) (sym (stood p u)) (ready.accepted.on_grid_lem p (omega arith));
      stencils = λ p u v. subst (Reached h ids) (sym (stood p u)) (ready.accepted.stencils p (omega arith));
    }

-- together they have all particles
pub all_taken : {h : Float} {ids ranges : List ℕ} {s nodes : Store} {n : ℕ} → Ready h ids ranges s nodes → Holds particle_form s n → before ranges (length ids) ≡ n
all_taken ready held = omega (arith, ready.accepted.covers.all_taken, ready.particles_held.floats_long, held.floats_long)
