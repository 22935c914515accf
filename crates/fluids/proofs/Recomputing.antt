-- What the check has shown where it refuses nothing, and what the call then leaves. Assumes nothing.
use Rattle.std.proofs.Common.{◌≡◌, refl, sym, ap, ◌∙◌, Bool, true, false, cond, List, [], ◌∷◌, ℕ, ◌*◌, Float, length}
use Rattle.packing.specs.Ids.{dim2, region}
use Rattle.numeric.specs.Bits.{none}
use Rattle.numeric.specs.Kernel.{precompute_weights}
use Rattle.laws.specs.Store.{Store, store, Holds}
use Rattle.laws.specs.Hits.{run}
use Rattle.laws.proofs.Hits as Hits
use Rattle.cells.specs.Cells.{cell_associated_to_point}
use Rattle.cells.specs.Stencil.{dir_to_associated_grid_node}
use Rattle.grid.specs.Answers.{refused, done}
use Rattle.grid.specs.Nodes.{node_form, node_at, nodes, region_cells, reads, stores}
use Rattle.grid.specs.Table.{good_width}
use Rattle.grid.specs.declared.grid_node.GridNode.{GridNode}
use Rattle.grid.proofs.Changing as Changing
use Rattle.particles.specs.Blocks.{IsBlock}
use Rattle.particles.specs.Particles.{particle_at, position_of}
use Rattle.particles.specs.declared.particle.Particle.{Particle}
use Rattle.particles.proofs.Staging.{Staged, staged}
use Rattle.scatter.specs.Hit.{weighed, weighed_node}
use Rattle.scatter.specs.Scatter.{scatter_hits, mass_scattered}
use Rattle.scatter.proofs.Scattering.{scatter_laws, scatter_within, by_particles}
use Rattle.gather.specs.Transfer.{on}
use Rattle.gather.proofs.Columns.{over_columns_lem}
use Rattle.gather.proofs.Gathering as Gathering
use Rattle.fluids.specs.Fluids.{gathered, with_volume, recomputed, weighing, gathered_in, recomputed_in, massless, volumes, emptied, particles_after, nodes_after, fluids_check, AllButVolume, Laws}

pub ready : (h : Float) (regions : ℕ) (ids ranges : List ℕ) (count : ℕ) (q : Store) (nf : List Float) (nw : List ℕ)
    → refused (fluids_check h regions ids ranges count q (length nf) (length nw)) ≡ false → Staged done h regions ids ranges count q (store nf nw)
unfolding fluids_check
ready h regions ids ranges count q nf nw e = staged (good_width h ∷ []) done h regions ids ranges count q nf nw e

-- ---- particles

-- by the block of its own region a particle is recomputed as by its stencil
module _ (h : Float) (ids : List ℕ) (s : Store) (r : ℕ) (block : List ℕ) (is : IsBlock ids r block) (q : Particle) (own : region (cell_associated_to_point dim2 h (position_of q)) ≡ r) where
  gathered_in_lem : gathered_in h block s q ≡ gathered h ids s (position_of q)
  unfolding gathered_in gathered
  gathered_in_lem = over_columns_lem h ids s r block is q own (weighing (precompute_weights (dir_to_associated_grid_node h (position_of q)) h)) none

  pub recomputed_in_lem : recomputed_in h block s q ≡ recomputed h ids s q
  unfolding recomputed_in recomputed
  recomputed_in_lem = ap (λ (mass : Float). cond (on q.fluid) (with_volume h mass q) q) gathered_in_lem

solid_stays : (h : Float) (ids : List ℕ) (s : Store) (q : Particle) → on q.fluid ≡ false → recomputed h ids s q ≡ q
unfolding recomputed
solid_stays h ids s q e = rw e

all_but_volume : (h : Float) (ids : List ℕ) (s : Store) (q : Particle) → AllButVolume (recomputed h ids s q) q
unfolding recomputed with_volume
all_but_volume h ids s q = go (on q.fluid)
  where
    go : (b : Bool) → AllButVolume (cond b (with_volume h (gathered h ids s (position_of q)) q) q) q
    go true =
        record { position = refl; velocity = refl; gradient = refl; stress = refl; mass = refl; volume0 = refl; phase = refl; crack = refl; psi = refl; f01 = refl; f10 = refl; f11 = refl; threshold = refl; parameter1 = refl; parameter2 = refl; kinematic_velocity = refl; flags = refl }
    go false =
        record { position = refl; velocity = refl; gradient = refl; stress = refl; mass = refl; volume0 = refl; phase = refl; crack = refl; psi = refl; f01 = refl; f10 = refl; f11 = refl; threshold = refl; parameter1 = refl; parameter2 = refl; kinematic_velocity = refl; flags = refl }

-- ---- nodes: mass alone was brought, and it is taken off again

weighed_keeps : (h : Float) (q : Particle) (shift : List ℕ) (n : GridNode) → massless (weighed h q shift n) ≡ massless n
unfolding weighed weighed_node
weighed_keeps h q shift n = refl

module _ (h : Float) (regions : ℕ) (ids ranges : List ℕ) (count : ℕ) (q s : Store) (staged : Staged done h regions ids ranges count q s) where
  abbrev places : ℕ
  places = length ids * region_cells

  brought : Holds node_form (mass_scattered h ids ranges q s) places
  unfolding mass_scattered
  brought = (scatter_laws h (weighed h) ids ranges q s staged.ready).held

  all_but_mass : (k : ℕ) → massless (node_at (mass_scattered h ids ranges q s) k) ≡ massless (node_at s k)
  unfolding mass_scattered
  all_but_mass k =
      let hits = scatter_hits h (weighed h) ids ranges q in
      ap massless (sym (reads (run nodes hits s) k))
      ∙ (Hits.laws nodes Changing.kept).keeps massless hits s places k ((stores s places).0 staged.ready.nodes_held) (scatter_within h (weighed h) ids ranges q s staged.ready)
      (by_particles (λ (f : GridNode → GridNode). (n : GridNode) → massless (f n) ≡ massless n) h (weighed h) ids ranges q (weighed_keeps h))
      ∙ ap massless (reads s k)

  pub laws : Laws h ids ranges count q s
  unfolding particles_after nodes_after volumes emptied
  laws =
      let t = mass_scattered h ids ranges q s in
      let change : ℕ → Particle → Particle = λ (p : ℕ). recomputed h ids t in
      record {
        each = Gathering.each change q count staged.held;
        solids = λ p l e. Gathering.each change q count staged.held p l ∙ solid_stays h ids t (particle_at q p) e;
        fluids = Gathering.each_keeps change AllButVolume (λ p. all_but_volume h ids t) q count staged.held;
        nodes_left = λ k l. Changing.each (λ (i : ℕ). massless) t places brought k l ∙ all_but_mass k;
        particles_held = Gathering.each_held change q count staged.held;
        nodes_held = Changing.each_held (λ (i : ℕ). massless) t places brought;
      }
