-- Document 01, "Fluids": mass only is scattered onto the nodes as they stand; for fluids F00 = (m/(gathered/(h·h)))/V0; then mass of all listed nodes is 0. And what a call is
-- refused for. Definitions, and what is proved of them.
-- Assumes nothing.
use Rattle.grid.specs.Answers.{Answer, done}
use Rattle.std.specs.Prelude.{◌≡◌, false, cond, List, [], ◌∷◌, ℕ, ◌*◌, ◌<◌, Float, length}
use Rattle.numeric.specs.Axes.{rows, matrix}
use Rattle.numeric.specs.Bits.{◌⊕◌, ◌⊗◌, ◌⊘◌, square, none}
use Rattle.numeric.specs.Kernel.{precompute_weights}
use Rattle.laws.specs.Store.{Store, Holds}
use Rattle.laws.specs.Hits.{run, changes}
use Rattle.cells.specs.Stencil.{dir_to_associated_grid_node, weight_of}
use Rattle.grid.specs.Nodes.{node_form, node_at, nodes, region_cells}
use Rattle.grid.specs.Table.{good_width}
use Rattle.grid.specs.declared.grid_node.GridNode.{GridNode}
use Rattle.particles.specs.Blocks.{corner_of}
use Rattle.particles.specs.Particles.{particle_form, particle_at, particles, position_of}
use Rattle.particles.specs.Table.{stage_check}
use Rattle.particles.specs.declared.particle.Particle.{Particle}
use Rattle.scatter.specs.Scatter.{mass_scattered}
use Rattle.gather.specs.Transfer.{entry00, on}
use Rattle.gather.specs.Gather.{over_stencil, over_columns}

-- ---- one particle

-- the mass gathered at a point from the nodes: from +0, in stencil order
unfoldable pub gathered : Float → List ℕ → Store → List Float → Float
gathered h ids s position =
    let w = precompute_weights (dir_to_associated_grid_node h position) h in
    over_stencil h ids s (λ (shift : List ℕ) (n : GridNode) (mass : Float). mass ⊕ weight_of w shift ⊗ n.mass) none position

-- what a cell holds: h·h in the plane
abbrev pub cell_volume : Float → Float
cell_volume h = square h

-- (m/(gathered/(h·h)))/V0
abbrev pub volume_of : Float → Float → Particle → Float
volume_of h mass q = (q.mass ⊘ (mass ⊘ cell_volume h)) ⊘ q.volume0

-- F00 is that
unfoldable pub with_volume : Float → Float → Particle → Particle
with_volume h mass q =
    record {
      position = q.position;
      velocity = q.velocity;
      velocity_gradient = q.velocity_gradient;
      stress = q.stress;
      mass = q.mass;
      volume0 = q.volume0;
      phase = q.phase;
      crack_propagation_factor = q.crack_propagation_factor;
      psi_pos = q.psi_pos;
      deformation_gradient = matrix (entry00 (λ (f : Float). volume_of h mass q) (rows q.deformation_gradient));
      crack_threshold = q.crack_threshold;
      parameter1 = q.parameter1;
      parameter2 = q.parameter2;
      kinematic_vel = q.kinematic_vel;
      failed = q.failed;
      kinematic = q.kinematic;
      fluid = q.fluid;
      is_static = q.is_static;
    }

-- for fluids; a solid stays
unfoldable pub recomputed : Float → List ℕ → Store → Particle → Particle
recomputed h ids s q = cond (on q.fluid) (with_volume h (gathered h ids s (position_of q)) q) q

-- ---- as the code goes: by the places of the block of the particle's region, column by column

-- what one node adds, by the particle's weights
abbrev pub weighing : List (List Float) → List ℕ → GridNode → Float → Float
weighing w shift n mass = mass ⊕ weight_of w shift ⊗ n.mass

unfoldable pub gathered_in : Float → List ℕ → Store → Particle → Float
gathered_in h block s q = over_columns s (weighing (precompute_weights (dir_to_associated_grid_node h (position_of q)) h)) block (corner_of h q) 3 none

unfoldable pub recomputed_in : Float → List ℕ → Store → Particle → Particle
recomputed_in h block s q = cond (on q.fluid) (with_volume h (gathered_in h block s q) q) q

-- ---- one node: its mass is 0, and all else stays

abbrev pub massless : GridNode → GridNode
massless n =
    record {
      mass = none;
      momentum = n.momentum;
      velocity = n.velocity;
      psi_momentum = n.psi_momentum;
      psi_mass = n.psi_mass;
      boundary = n.boundary;
    }

-- ---- all of them

-- by the mass on the nodes
unfoldable pub volumes : Float → List ℕ → Store → ℕ → Store → Store
volumes h ids s count q = run particles (changes (λ (p : ℕ). recomputed h ids s) count) q

unfoldable pub emptied : ℕ → Store → Store
emptied regions s = run nodes (changes (λ (k : ℕ). massless) (regions * region_cells)) s

-- what the call makes of the particles, and of the nodes
module _ (h : Float) (ids ranges : List ℕ) (count : ℕ) (q s : Store) where
  unfoldable pub particles_after : Store
  particles_after = volumes h ids (mass_scattered h ids ranges q s) count q

  unfoldable pub nodes_after : Store
  nodes_after = emptied (length ids) (mass_scattered h ids ranges q s)

-- ---- what a call is refused for: 1 to 10, with h alone in 3

unfoldable pub fluids_check : Float → ℕ → List ℕ → List ℕ → ℕ → Store → ℕ → ℕ → Answer
fluids_check h regions ids ranges count q nf nw = stage_check (good_width h ∷ []) done h regions ids ranges count q nf nw

-- ---- what is proved

-- all but F00
pub record AllButVolume (a b : Particle) : Type 0 where
  pub position : a.position ≡ b.position
  pub velocity : a.velocity ≡ b.velocity
  pub gradient : a.velocity_gradient ≡ b.velocity_gradient
  pub stress : a.stress ≡ b.stress
  pub mass : a.mass ≡ b.mass
  pub volume0 : a.volume0 ≡ b.volume0
  pub phase : a.phase ≡ b.phase
  pub crack : a.crack_propagation_factor ≡ b.crack_propagation_factor
  pub psi : a.psi_pos ≡ b.psi_pos
  pub f01 : a.deformation_gradient.m01 ≡ b.deformation_gradient.m01
  pub f10 : a.deformation_gradient.m10 ≡ b.deformation_gradient.m10
  pub f11 : a.deformation_gradient.m11 ≡ b.deformation_gradient.m11
  pub threshold : a.crack_threshold ≡ b.crack_threshold
  pub parameter1 : a.parameter1 ≡ b.parameter1
  pub parameter2 : a.parameter2 ≡ b.parameter2
  pub kinematic_velocity : a.kinematic_vel ≡ b.kinematic_vel
  pub flags : particle_form.words_of a ≡ particle_form.words_of b

-- of an accepted call
pub record Laws (h : Float) (ids ranges : List ℕ) (count : ℕ) (q s : Store) : Type 0 where
  -- Every particle is recomputed once, from what it held before the call, by the mass of all of them.
  pub each : (p : ℕ) → p < count → particle_at (particles_after h ids ranges count q s) p ≡ recomputed h ids (mass_scattered h ids ranges q s) (particle_at q p)
  -- A solid stays, and of a fluid all but F00.
  pub solids : (p : ℕ) → p < count → on (particle_at q p).fluid ≡ false → particle_at (particles_after h ids ranges count q s) p ≡ particle_at q p
  pub fluids : (p : ℕ) → p < count → AllButVolume (particle_at (particles_after h ids ranges count q s) p) (particle_at q p)
  -- Every listed node has mass +0, and all else as it was.
  pub nodes_left : (k : ℕ) → k < length ids * region_cells → node_at (nodes_after h ids ranges count q s) k ≡ massless (node_at s k)
  -- There are as many particles and nodes as before.
  pub particles_held : Holds particle_form (particles_after h ids ranges count q s) count
  pub nodes_held : Holds node_form (nodes_after h ids ranges count q s) (length ids * region_cells)
