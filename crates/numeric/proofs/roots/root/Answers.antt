-- `numeric::roots::root` meets its contract: the code tests in the definition's order.
use Rattle.std.proofs.Common.{T, sym, ◌∙◌, subst}
use lib.Ieee.{binary32, fits}
use Rattle.numeric.proofs.Patterns.{no, no_nan_bits, zero_by_zero, below_zero}
use Rattle.numeric.proofs.RootLaws.{of_nan, of_zero, of_negative, of_infinity, some_bits, by_bits}
use Rattle.numeric.proofs.roots.root.Goals.{Start}
use Rattle.numeric.proofs.roots.root.Goals as goal

held : (c : Start) → T (fits binary32 c.args.x)
held c = subst T (sym c.well_formed.0.1) tt

pub returns-then-is_nan : goal.returns-then-is_nan
returns-then-is_nan c = of_nan c.args.x c.if-is_nan.ensures.value

pub returns-then-x : goal.returns-then-x
returns-then-x c = of_zero c.args.x c.if-x.true

pub returns-then-x-2 : goal.returns-then-x-2
returns-then-x-2 c = let x = c.args.x in zero_by_zero ∙ of_negative x (below_zero x c.if-x-2.true) c.if-x.false

pub returns-then-b-ge2139095040 : goal.returns-then-b-ge2139095040
returns-then-b-ge2139095040 c =
    of_infinity c.args.x (held (goal.at.returns-then-b-ge2139095040 c).Start) (sym c.if-is_nan.ensures.value) c.if-x.false c.if-x-2.false c.if-b-ge2139095040.true

pub root_pattern-requires : goal.root_pattern-requires
root_pattern-requires c =
    (some_bits c.args.x (held (goal.at.root_pattern-requires c).Start) (sym c.if-is_nan.ensures.value) c.if-x.false c.if-x-2.false, c.if-b-ge2139095040.false)

pub float_from_bits-result : goal.float_from_bits-result
float_from_bits-result c = no (no_nan_bits _ c.root_pattern.ensures.1)

pub returns : goal.returns
returns c =
    c.root_pattern.ensures.0 ∙ sym (by_bits c.args.x (held (goal.at.returns c).Start) (sym c.if-is_nan.ensures.value) c.if-x.false c.if-x-2.false c.if-b-ge2139095040.false)
