-- Document 01, "Scatter": what a particle brings to a node, and what becomes of the node; of "Fluids", what mass alone makes of it. Vectors are lists, an entry an axis, and matrices lists of rows, so that the plane
-- and space share each definition. Definitions only.
use Rattle.std.specs.Prelude.{Bool, cond, ◌&&◌, not, List, map, ℕ, eqb, Float}
use Rattle.std.specs.Float.Ieee.{lt, ne}
use Rattle.numeric.specs.Axes.{pairwise, axes, rows, vector}
use Rattle.numeric.specs.Bits.{◌⊕◌, ◌⊖◌, ◌⊗◌, none}
use Rattle.numeric.specs.Kernel.{inv_d, dot, precompute_weights}
use Rattle.numeric.specs.Scalar.{inverse}
use Rattle.cells.specs.Stencil.{dir_to_associated_grid_node, dpt_of, weight_of}
use Rattle.grid.specs.declared.grid_node.GridNode.{GridNode}
use Rattle.particles.specs.Particles.{position_of}
use Rattle.particles.specs.declared.particle.Particle.{Particle}
use Rattle.scatter.specs.declared.particle_to_grid.Contribution.{Contribution}

-- ---- on any number of axes

-- what is taken of a particle
pub record Body : Type 0 where
  pub velocity : List Float
  pub gradient : List (List Float)
  pub stress : List (List Float)
  pub mass : Float
  pub volume0 : Float
  pub phase : Float
  pub crack : Float
  pub psi : Float
  pub failed : Bool

-- what it brings to each of its nodes
pub record Brought : Type 0 where
  pub mass : Float
  pub momentum : List Float
  pub affine : List (List Float)
  pub psi_mass : Float
  pub psi_momentum : Float

-- the numbers of a node
pub record Numbers : Type 0 where
  pub mass : Float
  pub momentum : List Float
  pub velocity : List Float
  pub psi_momentum : Float
  pub psi_mass : Float

-- S, zero for a failed particle
abbrev pub stress_of : Bool → List (List Float) → List (List Float)
stress_of failed s = cond failed (map (map (λ (x : Float). none)) s) s

-- A = m·G - ((V0·inv)·dt)·S
abbrev pub affine_of : Float → Float → List (List Float) → List (List Float) → List (List Float)
affine_of m c g s = pairwise (pairwise (λ (x y : Float). m ⊗ x ⊖ c ⊗ y)) g s

-- k = m if phase > 0, crack factor nonzero and not failed, else 0
abbrev pub psi_mass_of : Body → Float
psi_mass_of q = cond (lt none q.phase && (ne q.crack none && not q.failed)) q.mass none

unfoldable pub brought : Float → Float → Body → Brought
brought h dt q =
    let k = psi_mass_of q in
    record {
      mass = q.mass;
      momentum = map (λ (v : Float). q.mass ⊗ v) q.velocity;
      affine = affine_of q.mass ((q.volume0 ⊗ inv_d h) ⊗ dt) q.gradient (stress_of q.failed q.stress);
      psi_mass = k;
      psi_momentum = k ⊗ q.psi;
    }

-- A·dpt
abbrev pub applied : List (List Float) → List Float → List Float
applied rows x = map (λ (row : List Float). dot row x) rows

-- at each hit: mass += w·m; momentum += w·(A·dpt + m·v); psi mass += w·k; psi momentum += w·(k·psi); then velocity = (momentum + (mass·g)·dt)·inverse(mass)
unfoldable pub hit_by : Float → Float → List Float → List Float → Brought → List ℕ → Numbers → Numbers
hit_by h dt gravity dir b shift n =
    let dpt = dpt_of h dir shift in
    let w = weight_of (precompute_weights dir h) shift in
    let mass = n.mass ⊕ w ⊗ b.mass in
    let momentum = pairwise ◌⊕◌ n.momentum (map (λ (p : Float). w ⊗ p) (pairwise ◌⊕◌ (applied b.affine dpt) b.momentum)) in
    record {
      mass = mass;
      momentum = momentum;
      velocity = pairwise (λ (p g : Float). (p ⊕ (mass ⊗ g) ⊗ dt) ⊗ inverse mass) momentum gravity;
      psi_momentum = n.psi_momentum ⊕ w ⊗ b.psi_momentum;
      psi_mass = n.psi_mass ⊕ w ⊗ b.psi_mass;
    }

-- ---- in the plane

abbrev pub body_of : Particle → Body
body_of q =
    record {
      velocity = axes q.velocity;
      gradient = rows q.velocity_gradient;
      stress = rows q.stress;
      mass = q.mass;
      volume0 = q.volume0;
      phase = q.phase;
      crack = q.crack_propagation_factor;
      psi = q.psi_pos;
      failed = not (eqb q.failed 0);
    }

abbrev pub numbers_of : GridNode → Numbers
numbers_of n =
    record { mass = n.mass; momentum = axes n.momentum; velocity = axes n.velocity; psi_momentum = n.psi_momentum; psi_mass = n.psi_mass }

-- the node with other numbers; its flag stays
abbrev pub with_numbers : Numbers → GridNode → GridNode
with_numbers a n =
    record {
      mass = a.mass;
      momentum = vector a.momentum;
      velocity = vector a.velocity;
      psi_momentum = a.psi_momentum;
      psi_mass = a.psi_mass;
      boundary = n.boundary;
    }

-- what the code keeps of a particle is what it brings
abbrev pub brought_by : Contribution → Brought
brought_by c =
    record {
      mass = c.mass;
      momentum = axes c.momentum;
      affine = rows c.affine;
      psi_mass = c.psi_mass;
      psi_momentum = c.psi_momentum;
    }

-- what a hit makes of a node
unfoldable pub hit_node : Float → Float → List Float → List Float → Brought → List ℕ → GridNode → GridNode
hit_node h dt gravity dir b shift n = with_numbers (hit_by h dt gravity dir b shift (numbers_of n)) n

-- in a scatter, by a particle
unfoldable pub changed : Float → Float → List Float → Particle → List ℕ → GridNode → GridNode
changed h dt gravity q = hit_node h dt gravity (dir_to_associated_grid_node h (position_of q)) (brought h dt (body_of q))

-- ---- mass alone

-- mass += w·m, and nothing else
unfoldable pub weighed_node : Float → List Float → Float → List ℕ → GridNode → GridNode
weighed_node h dir m shift n =
    let w = weight_of (precompute_weights dir h) shift in
    record {
      mass = n.mass ⊕ w ⊗ m;
      momentum = n.momentum;
      velocity = n.velocity;
      psi_momentum = n.psi_momentum;
      psi_mass = n.psi_mass;
      boundary = n.boundary;
    }

unfoldable pub weighed : Float → Particle → List ℕ → GridNode → GridNode
weighed h q = weighed_node h (dir_to_associated_grid_node h (position_of q)) q.mass
