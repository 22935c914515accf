-- The update leaves a node of zero mass, momentum and velocity as it is, whatever the locks, the colliders and their projections. Assumes nothing.
use Rattle.std.proofs.Common.{◌≡◌, refl, ap, ◌∙◌, Bool, true, false, cond, List, [], ◌∷◌, ℕ, zero, suc, ◌+◌, ◌*◌, ◌/◌, ◌%◌, eqb, Float, get_or}
use Rattle.packing.specs.Ids.{dim2, cell_of}
use Rattle.numeric.specs.Axes.{axes, vector}
use Rattle.numeric.specs.Bits.{none}
use Rattle.numeric.specs.Kernel.{minus_all}
use Rattle.laws.specs.Store.{Store}
use Rattle.cells.specs.Cells.{cell_center}
use Rattle.grid.specs.Nodes.{region_cells}
use Rattle.grid.specs.declared.grid_node.GridNode.{GridNode}
use Rattle.update.specs.Boundary.{is_inside, point_of, norm, directed, direction, turned, against, rubbed, handled, collided}
use Rattle.update.specs.Update.{friction_at, projection_at, locked, locked_node, after_colliders, updated_node, Zero}
use Rattle.update.specs.declared.grid_update.BoundaryHandling.{BoundaryHandling}
use Rattle.update.specs.declared.grid_update.BoundaryHandling.TheVariants.{None, Stick, Friction}
use Rattle.update.specs.declared.grid_update.Projection.{Projection}
use Rattle.update.proofs.Nothing.{never_below}

-- ---- a velocity of +0s

abbrev still : List Float
still = none ∷ none ∷ []

either : {A : Type 0} (b : Bool) (x : A) → cond b x x ≡ x
either true x = refl
either false x = refl

-- it goes against no normal
against_still : (h dt friction : Float) (inside : Bool) (length : Float) (n : List Float) → against h dt friction inside length n still ≡ still
unfolding against
against_still h dt friction inside length n = rw (never_below n 2)

rubbed_still : (h dt friction : Float) (inside : Bool) (e : List Float) → rubbed h dt friction inside e still ≡ still
unfolding rubbed
rubbed_still h dt friction inside e = rw (against_still h dt friction inside (norm e) (turned inside (direction e))) (either (directed e) still)

handled_still : (handling : BoundaryHandling) (h dt friction : Float) (centre : List Float) (p : Projection) → handled handling h dt friction centre p still ≡ still
unfolding handled
handled_still None h dt friction centre p = refl
handled_still Stick h dt friction centre p = either (is_inside p) still
handled_still Friction h dt friction centre p = rubbed_still h dt friction (is_inside p) (minus_all centre (point_of p))

locked_still : (locks : ℕ) → locked locks still ≡ still
locked_still locks = rw (either (eqb (locks % 2) 1) none, either (eqb (locks / 2 % 2) 1) none)

-- ---- a node

locked_zero : (locks : ℕ) (n : GridNode) → Zero n → Zero (locked_node locks n)
unfolding locked_node
locked_zero locks n z =
    record {
      mass = z.mass;
      momentum = ap (λ (v : List Float). axes (vector (locked locks v))) z.momentum ∙ ap (λ (v : List Float). axes (vector v)) (locked_still locks);
      velocity = ap (λ (v : List Float). axes (vector (locked locks v))) z.velocity ∙ ap (λ (v : List Float). axes (vector v)) (locked_still locks);
    }

collided_zero : (handling : BoundaryHandling) (h dt friction : Float) (centre : List Float) (p : Projection) (n : GridNode) → Zero n → Zero (collided handling h dt friction centre p n)
unfolding collided
collided_zero handling h dt friction centre p n z =
    record {
      mass = z.mass;
      momentum = z.momentum;
      velocity = ap (λ (v : List Float). axes (vector (handled handling h dt friction centre p v))) z.velocity
          ∙ ap (λ (v : List Float). axes (vector v)) (handled_still handling h dt friction centre p);
    }

module _ (handling : BoundaryHandling) (h dt : Float) (colliders : List Float) (projections : Store) where
  after_zero : (centre : List Float) (p j : ℕ) (n : GridNode) → Zero n → Zero (after_colliders handling h dt colliders projections centre p j n)
  unfolding after_colliders
  after_zero centre p zero n z = z
  after_zero centre p (suc j) n z =
      collided_zero handling h dt (friction_at colliders j) centre (projection_at projections (p + j)) (after_colliders handling h dt colliders projections centre p j n)
      (after_zero centre p j n z)

  pub updated_zero : (locks : ℕ) (ids : List ℕ) (count r c : ℕ) (n : GridNode) → Zero n → Zero (updated_node handling h dt colliders projections locks ids count r c n)
  unfolding updated_node
  updated_zero locks ids count r c n z =
      after_zero (cell_center dim2 h (cell_of dim2 (get_or ids r 0) c)) ((r * region_cells + c) * count) count (locked_node locks n) (locked_zero locks n z)
