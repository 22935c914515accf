-- `cells::inner::coordinate` meets its contract: nothing else is on the grid, and what is there is a whole number.
use Rattle.std.proofs.lemmas.Bool.{lt-leb}
use Rattle.std.proofs.Common.{◌≡◌, ℕ, zero, suc, ◌≤◌, true, false, ◌&&◌, Float, true≢false, leb, sym, ap, ◌∙◌, arith, le-leb}
use Rattle.numeric.specs.Round.{round_away, cast_u32, nearest_to}
use Rattle.numeric.proofs.Patterns.{yes, is_nan_lem}
use Rattle.numeric.proofs.Ranges.{and_false, out, out_nan, rounds, whole_range, whole_cast}
use Rattle.cells.specs.Cells.{in_range}
use Rattle.cells.specs.Stencil.{IsCoordinate}
use Rattle.cells.proofs.inner.coordinate.Goals.{After-nearest_whole-n}
use Rattle.cells.proofs.inner.coordinate.Goals as goal

-- off the grid
off : (r : Float) → in_range r ≡ false → IsCoordinate r 0
off r e = record { is = rw e; below = omega arith; whole = λ t. absurd (true≢false (sym t ∙ e)) }

-- x is rounded to the whole number
rounded : (c : After-nearest_whole-n) → round_away c.args.x ≡ nearest_to c.nearest_whole-n.result
rounded c =
    rounds c.args.x (yes c.well_formed.0.1) (omega arith) ∙ sym (rw c.nearest_whole-n.ensures.0)

-- which is in range, or not
range : (c : After-nearest_whole-n) → let n = c.nearest_whole-n.result in in_range (round_away c.args.x) ≡ (leb 1 n && leb n 65535)
range c = ap in_range (rounded c) ∙ whole_range c.nearest_whole-n.result c.nearest_whole-n.ensures.1

pub returns-then-is_nan : goal.returns-then-is_nan
returns-then-is_nan c = let x = c.args.x in off _ (out_nan x (is_nan_lem x c.if-is_nan.ensures.value))

pub returns-then-b-ge1258291200 : goal.returns-then-b-ge1258291200
returns-then-b-ge1258291200 c = off _ (out c.args.x (yes c.well_formed.0.1) (omega arith))

pub returns-then-n-gt65535 : goal.returns-then-n-gt65535
returns-then-n-gt65535 c = off _ (range (goal.at.returns-then-n-gt65535 c).After-nearest_whole-n ∙ rw (lt-leb c.nearest_whole-n.result 65535 (omega arith)) (and_false (leb 1 c.nearest_whole-n.result)))

pub returns : goal.returns
returns c =
    of_whole c.nearest_whole-n.result _ (omega arith) (rounded (goal.at.returns c).After-nearest_whole-n) (range (goal.at.returns c).After-nearest_whole-n) (whole_cast c.nearest_whole-n.result c.nearest_whole-n.ensures.1)
  where
    of_whole : (c : ℕ) (r : Float) → c ≤ 65535 → r ≡ nearest_to c → in_range r ≡ (leb 1 c && leb c 65535) → cast_u32 (nearest_to c) ≡ c → IsCoordinate r c
    of_whole zero r l e i k = off r i
    of_whole (suc c) r l e i k =
        let t : in_range r ≡ true = i ∙ rw (le-leb 1 (suc c) (omega arith), le-leb (suc c) 65535 l) in
        record { is = sym (rw (t, e) k); below = l; whole = λ _. (omega arith, sym e) }
