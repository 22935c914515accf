-- `cells::inner::nearest` meets its contract: on the grid a coordinate is a whole number, and has one before it.
use Rattle.std.proofs.Common.{◌≡◌, ℕ, ◌-◌, ◌^◌, true, sym, ◌∙◌, arith, le→leb, Float}
use lib.Ieee.{in_float}
use Rattle.numeric.specs.Round.{cast_u32}
use Rattle.cells.specs.Cells.{in_range, one_off}
use Rattle.cells.specs.Stencil.{IsCoordinate}
use Rattle.cells.proofs.inner.nearest.Goals as goal

-- the cell before it
before_it : (r : Float) (n : ℕ) → in_range r ≡ true → IsCoordinate r n → n - 1 ≡ one_off (cast_u32 r)
before_it r n t i =
    let e : cast_u32 r ≡ n = sym (i.is ∙ rw t) in
    omega (arith, e, i.below, (i.whole t).0)

pub int_to_float-result : goal.int_to_float-result
unfolding in_float
int_to_float-result c = let k = c.coordinates-cell in le→leb k.result.x (2 ^ 24) (omega (arith, k.ensures.0.below))

pub int_to_float-result-2 : goal.int_to_float-result-2
unfolding in_float
int_to_float-result-2 c = let k = c.coordinates-cell in le→leb k.result.y (2 ^ 24) (omega (arith, k.ensures.1.below))

pub overflow_sub-result : goal.overflow_sub-result
overflow_sub-result c = omega (arith, (c.coordinates-cell.ensures.0.whole c.requires.0).0)

pub overflow_sub-result-2 : goal.overflow_sub-result-2
overflow_sub-result-2 c = omega (arith, (c.coordinates-cell.ensures.1.whole c.requires.1).0)

pub returns : goal.returns
returns c =
    let on = c.requires in
    let at = c.coordinates-cell.ensures in
    (rw ((at.0.whole on.0).1, (at.1.whole on.1).1), rw (before_it _ _ on.0 at.0, before_it _ _ on.1 at.1))
