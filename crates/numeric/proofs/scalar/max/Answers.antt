-- `numeric::scalar::max` meets its contract: the code tests in the definition's order.
use Rattle.std.proofs.Common.{◌≡◌, cond, ◌&&◌}
use lib.Ieee.{lt, eq}
use Rattle.numeric.specs.Bits.{none}
use Rattle.numeric.specs.Scalar.{maximum}
use Rattle.numeric.proofs.scalar.max.Goals.{Else-is_nan-2, else-a-via-then-a+else-b, else-a-via-else-a}
use Rattle.numeric.proofs.scalar.max.Goals as goal

-- Of two numbers only the zeros and the order are left.
numbers : (c : Else-is_nan-2) → let a = c.args in maximum a.a a.b ≡ cond (eq a.a none && eq a.b none) none (cond (lt a.a a.b) a.b a.a)
unfolding maximum
numbers c = rw (← c.if-is_nan.ensures.value, ← c.if-is_nan-2.ensures.value)

pub returns-then-is_nan : goal.returns-then-is_nan
unfolding maximum
returns-then-is_nan c = rw (← c.if-is_nan.ensures.value)

pub returns-then-is_nan-2 : goal.returns-then-is_nan-2
unfolding maximum
returns-then-is_nan-2 c = rw (← c.if-is_nan.ensures.value, ← c.if-is_nan-2.ensures.value)

pub returns-then-b : goal.returns-then-b
returns-then-b c = rw (numbers (goal.at.returns-then-b c).Else-is_nan-2, c.if-a.true, c.if-b.true)

pub returns-then-a-b : goal.returns-then-a-b
returns-then-a-b c =
    let n = numbers (goal.at.returns-then-a-b c).Else-is_nan-2 in
    elim c.else-a.branch [
      | else-a-via-then-a+else-b w ↦ rw (n, w.if-a.true, w.if-b.false, c.if-a-b.true)
      | else-a-via-else-a w ↦ rw (n, w.if-a.false, c.if-a-b.true)
    ]

pub returns-else-a-b : goal.returns-else-a-b
returns-else-a-b c =
    let n = numbers (goal.at.returns-else-a-b c).Else-is_nan-2 in
    elim c.else-a.branch [
      | else-a-via-then-a+else-b w ↦ rw (n, w.if-a.true, w.if-b.false, c.if-a-b.false)
      | else-a-via-else-a w ↦ rw (n, w.if-a.false, c.if-a-b.false)
    ]
