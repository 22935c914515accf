-- With what is left of n spelled before i, the list is, at each turn, the one asked for.
use Rattle.std.proofs.Common.{◌≡◌, ◌∙◌, sym, arith}
use Rattle.std.proofs.Math.ListN.{length-set}
use Rattle.fields.specs.Write.{digits_of}
use Rattle.fields.proofs.Writing.{fill_step}
use Rattle.fields.proofs.out.fill.Goals as goal

pub loop-i-preserved : goal.loop-i-preserved
loop-i-preserved c = (
  simp length-set c.loop-i.invariant.0,
  c.loop-i.invariant.1 ∙ rw c.glyph.ensures (fill_step _ _ _ _ c.loop-i-test.true (omega arith)),
)

pub returns : goal.returns
unfolding digits_of
returns c = let e : c.loop-i.i ≡ 0 = omega arith in sym (c.loop-i.invariant.1 ∙ rw e)
