-- What the update makes of a node, on values that can be followed by hand. Assumes nothing.
use Rattle.std.specs.Prelude.{true, false, List, [], ◌∷◌, map, ◌≡◌, refl, ℕ, Float, Ok, Err}
use Rattle.std.specs.Float.{nan, binary32}
use Rattle.std.specs.Float.Ieee.{is_nan, neg, lt, le, eq, round, add, sub, mul, div, of_bits, to_bits, size, units}
use Rattle.numeric.specs.Bits.{none, half, one, two, ◌⊗◌}
use Rattle.numeric.specs.Root.{root_of, units_root, whole_root, root_digits}
use Rattle.numeric.specs.Scalar.{maximum}
use Rattle.laws.specs.Store.{store}
use Rattle.grid.specs.declared.Rule.TheVariants.{Code}
use Rattle.grid.specs.declared.grid_node.GridNode.{GridNode}
use Rattle.update.specs.Boundary.{handling_of, flagged, least_norm, least_tangent, slid, met, against, rubbed, handled}
use Rattle.update.specs.Update.{projection_at, locked_node}
use Rattle.update.specs.declared.grid_update.BoundaryHandling.{BoundaryHandling}
use Rattle.update.specs.declared.grid_update.BoundaryHandling.TheVariants.{None, Stick, Friction}
use Rattle.update.specs.declared.grid_update.Projection.{Projection}
use Rattle.update.specs.declared.grid_update.Projection.TheVariants.{Inside, Outside}

-- a cell at (0, 0), h = dt = 1: the patterns of what becomes of a velocity
abbrev after : BoundaryHandling → Float → Projection → List Float → List ℕ
after handling friction p v = map (to_bits binary32) (handled handling one one friction (none ∷ none ∷ []) p v)

-- the point (-1/2, 0), half a cell to the left, and (-2, 0), two cells to the left
abbrev near : Float
near = neg half

abbrev far : Float
far = neg two

-- a node at rest but for its momentum (1, 2) and velocity (1, 2)
abbrev node : GridNode
node =
    record {
      mass = one;
      momentum = record { x = one; y = two };
      velocity = record { x = one; y = two };
      psi_momentum = none;
      psi_mass = none;
      boundary = 0;
    }

pub record Values : Type 0 where
  -- the codes, of which 2 and 3 act alike
  pub codes : map handling_of (0 ∷ 1 ∷ 2 ∷ 3 ∷ 4 ∷ []) ≡ Ok None ∷ Ok Stick ∷ Ok Friction ∷ Ok Friction ∷ Err (record { rule = Code; index = 0 }) ∷ []
  -- 1.0e-5·1.0e-5 is not 1.0e-10
  pub least : (to_bits binary32 (least_norm ⊗ least_norm) ≡ 0x2edbe6fe) × (to_bits binary32 least_tangent ≡ 0x2edbe6ff)
  -- the flag: on stays on with its bits, inside switches it on
  pub flag : map (flagged true) (0 ∷ 1 ∷ 7 ∷ []) ≡ 1 ∷ 1 ∷ 7 ∷ []
  pub flag_outside : map (flagged false) (0 ∷ 1 ∷ 7 ∷ []) ≡ 0 ∷ 1 ∷ 7 ∷ []
  -- a word of 0 is outside
  pub projection : projection_at (store (one ∷ two ∷ half ∷ one ∷ []) (0 ∷ 1 ∷ [])) 1 ≡ Inside half one
  -- the locks of x, of y, of both
  pub locks : ((locked_node 1 node).velocity ≡ record { x = none; y = two }) × ((locked_node 2 node).momentum ≡ record { x = one; y = none }) × ((locked_node 3 node).velocity ≡ record { x = none; y = none })
  -- stick: 0 inside, and nothing outside
  pub stick : (after Stick none (Inside near none) (one ∷ one ∷ []) ≡ 0 ∷ 0 ∷ []) × (after Stick none (Outside near none) (one ∷ one ∷ []) ≡ 0x3f800000 ∷ 0x3f800000 ∷ [])
  -- outside, half a cell away: the normal is (1, 0); v = (-1, 1) loses its normal part, and with friction 1/2 half of the rest
  pub slides : after Friction none (Outside near none) (neg one ∷ one ∷ []) ≡ 0 ∷ 0x3f800000 ∷ []
  pub rubs : after Friction half (Outside near none) (neg one ∷ one ∷ []) ≡ 0 ∷ 0x3f000000 ∷ []
  -- with friction 2 nothing is left
  pub stops : after Friction two (Outside near none) (neg one ∷ one ∷ []) ≡ 0 ∷ 0 ∷ []
  -- away from the collider nothing happens; inside the normal is turned, so that this goes deeper
  pub leaves : after Friction none (Outside near none) (one ∷ one ∷ []) ≡ 0x3f800000 ∷ 0x3f800000 ∷ []
  pub turned : after Friction none (Inside near none) (one ∷ one ∷ []) ≡ 0 ∷ 0x3f800000 ∷ []
  -- two cells away q = 1: (-1, 0) does not reach it, and of (-2, 0) only (-1, 0) is left
  pub short : after Friction none (Outside far none) (neg one ∷ none ∷ []) ≡ 0xbf800000 ∷ 0 ∷ []
  pub held : after Friction none (Outside far none) (neg two ∷ none ∷ []) ≡ 0xbf800000 ∷ 0 ∷ []
  -- a point at the cell has no normal, and neither has one at the least distance; the f32 above it has
  pub at : after Friction none (Outside none none) (neg one ∷ one ∷ []) ≡ 0xbf800000 ∷ 0x3f800000 ∷ []
  pub threshold : (after Friction none (Outside (neg least_norm) none) (neg one ∷ one ∷ []) ≡ 0xbf800000 ∷ 0x3f800000 ∷ [])
      × (after Friction none (Outside (of_bits binary32 0xb727c5ad) none) (neg one ∷ one ∷ []) ≡ 0 ∷ 0x3f800000 ∷ [])
  -- nothing is to be seen of a NaN or an infinity in a node's velocity at rest: (NaN, 0) stays
  pub stray : after Friction none (Outside near none) (nan ∷ none ∷ []) ≡ 0x7fc00000 ∷ 0 ∷ []

pub values : Values
unfolding handled rubbed against met slid locked_node root_of units_root whole_root root_digits maximum is_nan lt le eq neg round add sub mul div of_bits to_bits size units
values =
    record {
      codes = refl;
      least = (refl, refl);
      flag = refl;
      flag_outside = refl;
      projection = refl;
      locks = (refl, refl, refl);
      stick = (refl, refl);
      slides = refl;
      rubs = refl;
      stops = refl;
      leaves = refl;
      turned = refl;
      short = refl;
      held = refl;
      at = refl;
      threshold = (refl, refl);
      stray = refl;
    }
