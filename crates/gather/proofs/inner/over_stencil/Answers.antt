-- `gather::inner::over_stencil` meets its contract: node by node, and column by column.
use Rattle.std.proofs.Common.{◌≡◌, suc, ◌+◌, refl, ◌∙◌, arith}
use Rattle.gather.specs.Gather.{over_column, over_columns}
use Rattle.gather.proofs.inner.over_stencil.Goals as goal

pub loop-i-init : goal.loop-i-init
unfolding over_columns
loop-i-init g c = λ step adds. refl

pub loop-j-init : goal.loop-j-init
unfolding over_column
loop-j-init g c = λ step adds. c.loop-i.invariant step adds

pub loop-j-preserved : goal.loop-j-preserved
unfolding over_column
loop-j-preserved g c =
    λ step adds.
    let l = c.loop-j in
    let e : l.j + 1 ≡ suc l.j = omega arith in
    rw (e, ← l.invariant step adds, ← c.step.ensures.0, ← c.step-in-loop-j.ensures.0, ← c.node_in.ensures) (adds _ _ _ _ c.add-sum.ensures)

pub loop-i-preserved : goal.loop-i-preserved
unfolding over_columns
loop-i-preserved g c = λ step adds. let l = c.loop-i in let e : l.i + 1 ≡ suc l.i = omega arith in let n : c.loop-j.j ≡ 3 = omega arith in rw e (c.loop-j.invariant step adds ∙ rw n)

pub returns : goal.returns
returns g c = λ step adds. let n : c.loop-i.i ≡ 3 = omega arith in c.loop-i.invariant step adds ∙ rw n
