-- Document 01, "Update": what a collider makes of a node, by the projection of the node's cell on it. Vectors are lists, an entry an axis, so that the plane and space
-- share each definition. Definitions, and what is proved of them.
-- Assumes nothing.
use Rattle.std.specs.Prelude.{◌≡◌, refl, Bool, true, false, cond, ◌||◌, List, [], ◌∷◌, map, ℕ, eqb, leb, Float, Option, Some, None as Absent, Result, Ok, Err}
use Rattle.std.specs.Float.{binary32}
use Rattle.std.specs.Float.Ieee.{lt, le, neg, of_bits}
use Rattle.numeric.specs.Axes.{pairwise, axes, vector}
use Rattle.numeric.specs.Bits.{◌⊕◌, ◌⊖◌, ◌⊗◌, ◌⊘◌, none}
use Rattle.numeric.specs.Kernel.{dot, minus_all}
use Rattle.numeric.specs.Root.{root_of}
use Rattle.numeric.specs.Scalar.{maximum}
use Rattle.numeric.specs.declared.dim2.Vector.{Vector}
use Rattle.grid.specs.declared.Refusal.{Refusal}
use Rattle.grid.specs.declared.Rule.TheVariants.{Code}
use Rattle.grid.specs.declared.grid_node.GridNode.{GridNode}
use Rattle.update.specs.declared.grid_update.BoundaryHandling.{BoundaryHandling}
use Rattle.update.specs.declared.grid_update.BoundaryHandling.TheVariants.{None, Stick, Friction}
use Rattle.update.specs.declared.grid_update.Projection.{Projection}
use Rattle.update.specs.declared.grid_update.Projection.TheVariants.{Inside, Outside}

-- Boundary handling is 0 none, 1 stick, 2 friction, 3 friction z-up; 2 and 3 act alike, and the rest is refused with 4.
abbrev pub handling_of : ℕ → Result BoundaryHandling Refusal
handling_of code = cond (eqb code 0) (Ok None) (cond (eqb code 1) (Ok Stick) (cond (leb code 3) (Ok Friction) (Err (record { rule = Code; index = 0 }))))

abbrev pub known : Result BoundaryHandling Refusal → Bool
known (Ok handling) = true
known (Err e) = false

-- an unknown code is refused, and then nothing is asked of it
abbrev pub known_or : BoundaryHandling → Result BoundaryHandling Refusal → BoundaryHandling
known_or other (Ok handling) = handling
known_or other (Err e) = other

-- The projection of a cell on a collider is inside at a point or outside at a point.
abbrev pub is_inside : Projection → Bool
is_inside (Inside x y) = true
is_inside (Outside x y) = false

abbrev pub point_of : Projection → List Float
point_of (Inside x y) = x ∷ y ∷ []
point_of (Outside x y) = x ∷ y ∷ []

-- The flag once on stays on, whatever its bits; inside switches it on.
abbrev pub flagged : Bool → ℕ → ℕ
flagged inside w = cond (eqb w 0) (cond inside 1 0) w

-- ---- on any number of axes

-- |e|
abbrev pub norm : List Float → Float
norm e = root_of (dot e e)

-- 1.0e-5, and 1.0e-10; the square of the first is another f32 than the second
abbrev pub least_norm : Float
least_norm = of_bits binary32 0x3727c5ac

abbrev pub least_tangent : Float
least_tangent = of_bits binary32 0x2edbe6ff

-- whether e has a direction: e·e > 1.0e-5·1.0e-5; and it: e/n
abbrev pub directed : List Float → Bool
directed e = lt (least_norm ⊗ least_norm) (dot e e)

abbrev pub direction : List Float → List Float
direction e = map (λ (x : Float). x ⊘ norm e) e

-- negated inside
abbrev pub turned : Bool → List Float → List Float
turned inside normal = cond inside (map neg normal) normal

-- t becomes the velocity and, only if |t| > 1.0e-10, then (t/|t|)·max(|t| + s·friction, 0)
unfoldable pub slid : Float → Float → List Float → List Float
slid friction s t = cond (lt least_tangent (norm t)) (map (λ (x : Float). (x ⊘ norm t) ⊗ maximum (norm t ⊕ s ⊗ friction) none) t) t

-- v - c·N
abbrev pub less : List Float → Float → List Float → List Float
less v c normal = pairwise (λ (x y : Float). x ⊖ c ⊗ y) v normal

-- With q = n - h: inside or q ≤ 0: t = v - s·N, which slides; else if -s·dt > q: v -= (q/dt + s)·N.
unfoldable pub met : Float → Float → Bool → Float → Float → List Float → List Float → List Float
met dt friction inside q s normal v =
    cond (inside || le q none) (slid friction s (less v s normal))
    (cond (lt q (neg s ⊗ dt)) (less v (q ⊘ dt ⊕ s) normal)
    v)

-- s = v·N; only if s < 0
unfoldable pub against : Float → Float → Float → Bool → Float → List Float → List Float → List Float
against h dt friction inside n normal v = cond (lt (dot v normal) none) (met dt friction inside (n ⊖ h) (dot v normal) normal v) v

-- e = centre - point; nothing unless it has a direction
unfoldable pub rubbed : Float → Float → Float → Bool → List Float → List Float → List Float
rubbed h dt friction inside e v = cond (directed e) (against h dt friction inside (norm e) (turned inside (direction e)) v) v

-- The same in one piece, in document 01's words and order: e = centre - point, n = its norm; nothing unless e·e > 1.0e-5·1.0e-5; N = e/n, negated inside; s = v·N; only if
-- s < 0: q = n - h; inside or q ≤ 0: t = v - s·N becomes the velocity and, only if |t| > 1.0e-10, then (t/|t|)·max(|t| + s·friction, 0); else if -s·dt > q: v -= (q/dt + s)·N.
unfoldable pub as_written : Float → Float → Float → Bool → List Float → List Float → List Float
as_written h dt friction inside e v =
    let n = norm e in
    let normal = turned inside (map (λ (x : Float). x ⊘ n) e) in
    let s = dot v normal in
    let q = n ⊖ h in
    let t = less v s normal in
    cond (lt (least_norm ⊗ least_norm) (dot e e))
    (cond (lt s none)
    (cond (inside || le q none)
    (cond (lt least_tangent (norm t)) (map (λ (x : Float). (x ⊘ norm t) ⊗ maximum (norm t ⊕ s ⊗ friction) none) t) t)
    (cond (lt q (neg s ⊗ dt)) (less v (q ⊘ dt ⊕ s) normal)
    v))
    v)
    v

pub is_as_written : (h dt friction : Float) (inside : Bool) (e v : List Float) → rubbed h dt friction inside e v ≡ as_written h dt friction inside e v
unfolding rubbed against met slid as_written
is_as_written h dt friction inside e v = refl

-- what becomes of a velocity: stick inside is 0
unfoldable pub handled : BoundaryHandling → Float → Float → Float → List Float → Projection → List Float → List Float
handled None h dt friction centre p v = v
handled Stick h dt friction centre p v = cond (is_inside p) (map (λ (x : Float). none) v) v
handled Friction h dt friction centre p v = rubbed h dt friction (is_inside p) (minus_all centre (point_of p)) v

-- ---- in the plane

-- the normal of a vector with its length, or none
abbrev pub normal_of : List Float → Option (Vector × Float)
normal_of e = cond (directed e) (Some (vector (direction e), norm e)) Absent

-- what a collider makes of a node
unfoldable pub collided : BoundaryHandling → Float → Float → Float → List Float → Projection → GridNode → GridNode
collided handling h dt friction centre p n =
    record {
      mass = n.mass;
      momentum = n.momentum;
      velocity = vector (handled handling h dt friction centre p (axes n.velocity));
      psi_momentum = n.psi_momentum;
      psi_mass = n.psi_mass;
      boundary = flagged (is_inside p) n.boundary;
    }
