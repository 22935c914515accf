-- Document 01, "Gather": what a particle takes from the nodes of its stencil, and what becomes of it in each half. Vectors are lists, an entry an axis, and matrices lists of
-- rows, so that the plane and space share each definition. Definitions only.
use Rattle.std.specs.Prelude.{ℕ, Bool, cond, not, ◌&&◌, ◌||◌, List, [], ◌∷◌, map, ◌==◌, from_bits, slice_index_or, Float}
use Rattle.std.specs.Float.{nan, binary32}
use Rattle.std.specs.Float.Ieee.{lt, eq, ne}
use Rattle.numeric.specs.Axes.{pairwise, zeros, zero_rows, identity, outer, matrix_product, axes, rows, vector, matrix}
use Rattle.numeric.specs.Bits.{◌⊕◌, ◌⊗◌, none}
use Rattle.numeric.specs.Kernel.{inv_d, dot, precompute_weights}
use Rattle.numeric.specs.Scalar.{inverse, maximum, magnitude}
use Rattle.cells.specs.Stencil.{dpt_of, weight_of}
use Rattle.grid.specs.declared.grid_node.GridNode.{GridNode}
use Rattle.particles.specs.declared.particle.Particle.{Particle}
use Rattle.gather.specs.declared.grid_to_particle.Told.{Told}
use Rattle.gather.specs.declared.grid_to_particle.Transfer.{Transfer}

-- ---- what is taken from the nodes, on any number of axes

-- of a node
pub record Node : Type 0 where
  pub velocity : List Float
  pub psi_momentum : Float
  pub psi_mass : Float

-- v, G, p and D
pub record Taken : Type 0 where
  pub velocity : List Float
  pub gradient : List (List Float)
  pub psi : Float
  pub divergence : Float

-- from +0
abbrev pub nothing : List Float → Taken
nothing dir = record { velocity = zeros dir; gradient = map (λ (d : Float). zeros dir) dir; psi = none; divergence = none }

-- u the node's velocity: v += w·u; G += ((w·inv)·u)·dptᵀ; p += (w·psi momentum)·inverse(psi mass); D += (w·(u·dpt))·inv
unfoldable pub taken_from : Float → List Float → List ℕ → Node → Taken → Taken
taken_from h dir shift n a =
    let dpt = dpt_of h dir shift in
    let w = weight_of (precompute_weights dir h) shift in
    let u = n.velocity in
    record {
      velocity = pairwise ◌⊕◌ a.velocity (map (λ (x : Float). w ⊗ x) u);
      gradient = pairwise (pairwise ◌⊕◌) a.gradient (outer (map (λ (x : Float). (w ⊗ inv_d h) ⊗ x) u) dpt);
      psi = a.psi ⊕ (w ⊗ n.psi_momentum) ⊗ inverse n.psi_mass;
      divergence = a.divergence ⊕ (w ⊗ dot u dpt) ⊗ inv_d h;
    }

-- ---- the first half, on any number of axes

-- what is taken of a particle
pub record Body : Type 0 where
  pub position : List Float
  pub deformation : List (List Float)
  pub phase : Float
  pub crack : Float
  pub threshold : Float
  pub kinematic : Bool
  pub kinematic_velocity : List Float
  pub fluid : Bool

-- what it has afterwards
pub record Moved : Type 0 where
  pub gradient : List (List Float)
  pub phase : Float
  pub velocity : List Float
  pub position : List Float
  pub deformation : List (List Float)

-- With modified eigenerosion, nonzero crack factor and phase > 0: phase 0 if (factor·h)·p > threshold.
abbrev pub eroded : Bool → Float → Float → Body → Float
eroded modified h p q = cond (modified && (ne q.crack none && (lt none q.phase && lt q.threshold ((q.crack ⊗ h) ⊗ p)))) none q.phase

-- Solid: F += (G·dt)·F
abbrev pub solid_deformed : Float → List (List Float) → List (List Float) → List (List Float)
solid_deformed dt g f = pairwise (pairwise ◌⊕◌) f (matrix_product (map (map (λ (x : Float). x ⊗ dt)) g) f)

-- F00 alone, which is a fluid's
abbrev pub entry00 : (Float → Float) → List (List Float) → List (List Float)
entry00 change [] = []
entry00 change ([] ∷ rows) = [] ∷ rows
entry00 change ((f ∷ fs) ∷ rows) = (change f ∷ fs) ∷ rows

-- fluid: F00 += (D·dt)·F00
abbrev pub fluid_deformed : Float → Float → List (List Float) → List (List Float)
fluid_deformed dt d f = entry00 (λ (x : Float). x ⊕ (d ⊗ dt) ⊗ x) f

abbrev pub deformed : Float → Taken → Body → List (List Float)
deformed dt a q = cond q.fluid (fluid_deformed dt a.divergence q.deformation) (solid_deformed dt a.gradient q.deformation)

-- G as taken; the phase by eigenerosion; a kinematic velocity replaces v; x += v·dt; then F
unfoldable pub moved : Bool → Float → Float → Taken → Body → Moved
moved modified h dt a q =
    let velocity = cond q.kinematic q.kinematic_velocity a.velocity in
    record {
      gradient = a.gradient;
      phase = eroded modified h a.psi q;
      velocity = velocity;
      position = pairwise (λ (x v : Float). x ⊕ v ⊗ dt) q.position velocity;
      deformation = deformed dt a q;
    }

-- ---- the second half, on any number of axes

-- what is given for a particle: its density, its energy, and whether its model says that it failed
pub record Given : Type 0 where
  pub density : Float
  pub energy : Float
  pub failed : Bool

-- what is taken of a particle
pub record State : Type 0 where
  pub velocity : List Float
  pub gradient : List (List Float)
  pub deformation : List (List Float)
  pub phase : Float
  pub psi : Float
  pub mass : Float
  pub failed : Bool
  pub static : Bool
  pub fluid : Bool

-- what it has afterwards
pub record Settled : Type 0 where
  pub velocity : List Float
  pub gradient : List (List Float)
  pub failed : Bool
  pub deformation : List (List Float)
  pub psi : Float
  pub parameter1 : Float
  pub parameter2 : Float
  pub phase : Float

abbrev pub ten_thousand : Float
ten_thousand = from_bits binary32 0x461c4000

-- density given as 0, already failed, or solid with |F00| > 1.0e4
unfoldable pub fails : Given → State → Bool
fails given q = eq given.density none || (q.failed || (not q.fluid && lt ten_thousand (magnitude (slice_index_or (slice_index_or q.deformation 0 []) 0 nan))))

-- A static particle has v and G zeroed; one that fails: F identity, G zero. psi = max(psi, given energy); parameter1 = psi·m, parameter2 = m; given failure zeroes phase.
unfoldable pub settled : Given → State → Settled
settled given q =
    let failed = fails given q in
    let psi = maximum q.psi given.energy in
    record {
      velocity = cond q.static (zeros q.velocity) q.velocity;
      gradient = cond (q.static || failed) (zero_rows q.gradient) q.gradient;
      failed = failed;
      deformation = cond failed (identity q.deformation) q.deformation;
      psi = psi;
      parameter1 = psi ⊗ q.mass;
      parameter2 = q.mass;
      phase = cond given.failed none q.phase;
    }

-- ---- in the plane

-- whether a flag is on
abbrev pub on : ℕ → Bool
on w = not (w == 0)

abbrev pub node_of : GridNode → Node
node_of n = record { velocity = axes n.velocity; psi_momentum = n.psi_momentum; psi_mass = n.psi_mass }

abbrev pub body_of : Particle → Body
body_of q =
    record {
      position = q.position.x ∷ q.position.y ∷ [];
      deformation = rows q.deformation_gradient;
      phase = q.phase;
      crack = q.crack_propagation_factor;
      threshold = q.crack_threshold;
      kinematic = on q.kinematic;
      kinematic_velocity = axes q.kinematic_vel;
      fluid = on q.fluid;
    }

abbrev pub state_of : Particle → State
state_of q =
    record {
      velocity = axes q.velocity;
      gradient = rows q.velocity_gradient;
      deformation = rows q.deformation_gradient;
      phase = q.phase;
      psi = q.psi_pos;
      mass = q.mass;
      failed = on q.failed;
      static = on q.is_static;
      fluid = on q.fluid;
    }

-- the particle with what the first half changes; all else stays
abbrev pub with_moved : Moved → Particle → Particle
with_moved a q =
    record {
      position = record { x = slice_index_or a.position 0 nan; y = slice_index_or a.position 1 nan };
      velocity = vector a.velocity;
      velocity_gradient = matrix a.gradient;
      stress = q.stress;
      mass = q.mass;
      volume0 = q.volume0;
      phase = a.phase;
      crack_propagation_factor = q.crack_propagation_factor;
      psi_pos = q.psi_pos;
      deformation_gradient = matrix a.deformation;
      crack_threshold = q.crack_threshold;
      parameter1 = q.parameter1;
      parameter2 = q.parameter2;
      kinematic_vel = q.kinematic_vel;
      failed = q.failed;
      kinematic = q.kinematic;
      fluid = q.fluid;
      is_static = q.is_static;
    }

-- and with what the second half changes
abbrev pub with_settled : Settled → Particle → Particle
with_settled a q =
    record {
      position = q.position;
      velocity = vector a.velocity;
      velocity_gradient = matrix a.gradient;
      stress = q.stress;
      mass = q.mass;
      volume0 = q.volume0;
      phase = a.phase;
      crack_propagation_factor = q.crack_propagation_factor;
      psi_pos = a.psi;
      deformation_gradient = matrix a.deformation;
      crack_threshold = q.crack_threshold;
      parameter1 = a.parameter1;
      parameter2 = a.parameter2;
      kinematic_vel = q.kinematic_vel;
      failed = cond a.failed 1 q.failed;
      kinematic = q.kinematic;
      fluid = q.fluid;
      is_static = q.is_static;
    }

-- what the code keeps is what is taken, and what is given
abbrev pub taken_by : Transfer → Taken
taken_by t =
    record {
      velocity = axes t.velocity;
      gradient = rows t.velocity_gradient;
      psi = t.psi_pos_momentum;
      divergence = t.velocity_gradient_det;
    }

abbrev pub given_by : Told → Given
given_by t = record { density = t.density; energy = t.energy; failed = t.failed }

-- what becomes of a particle in each half
unfoldable pub advanced : Bool → Float → Float → Taken → Particle → Particle
advanced modified h dt a q = with_moved (moved modified h dt a (body_of q)) q

unfoldable pub finished : Given → Particle → Particle
finished given q = with_settled (settled given (state_of q)) q
