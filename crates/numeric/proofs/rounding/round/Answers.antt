-- `numeric::rounding::round` meets its contract: below 2 ^ 23 the nearest whole number with x's sign, and x itself from there on.
use Rattle.std.proofs.lemmas.Bool.{lt-leb}
use Rattle.std.proofs.Common.{◌≡◌, Bool, true, false, leb, sym, ◌∙◌, arith, le-leb}
use lib.Ieee.{binary32, of_int, round}
use Rattle.numeric.specs.Round.{round_away}
use Rattle.numeric.proofs.Patterns.{yes, bits, is_nan_lem, neg_round}
use Rattle.numeric.proofs.Whole.{from_two_to_23, below_two_to_23}
use Rattle.numeric.proofs.rounding.round.Goals.{After-nearest_whole-y}
use Rattle.numeric.proofs.rounding.round.Goals as goal

-- The whole number with x's sign is the answer.
answer : (c : After-nearest_whole-y) (s : Bool) → leb 2147483648 (bits c.args.x) ≡ s → round binary32 s c.nearest_whole-y.result 1 ≡ round_away c.args.x
answer c s e =
    sym (rw (below_two_to_23 c.args.x (yes c.well_formed.0.1) (omega arith), e, c.nearest_whole-y.ensures.0))

pub returns-then-is_nan : goal.returns-then-is_nan
unfolding round_away
returns-then-is_nan c = rw (is_nan_lem c.args.x c.if-is_nan.ensures.value)

pub returns-then-a-ge1258291200 : goal.returns-then-a-ge1258291200
returns-then-a-ge1258291200 c = from_two_to_23 c.args.x (yes c.well_formed.0.1) (omega arith)

pub returns-then-b-ge2147483648 : goal.returns-then-b-ge2147483648
unfolding of_int
returns-then-b-ge2147483648 c = neg_round c.nearest_whole-y.result 1 ∙ answer (goal.at.returns-then-b-ge2147483648 c).After-nearest_whole-y true (le-leb 2147483648 (bits c.args.x) (omega arith))

pub returns-else-b-ge2147483648 : goal.returns-else-b-ge2147483648
unfolding of_int
returns-else-b-ge2147483648 c = answer (goal.at.returns-else-b-ge2147483648 c).After-nearest_whole-y false (lt-leb 2147483648 (bits c.args.x) (omega arith))
