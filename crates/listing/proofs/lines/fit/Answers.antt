-- Whether all fields fit is, at each turn, whether those that are left fit into what is left.
use Rattle.std.proofs.Common.{sym, ◌∙◌}
use Rattle.listing.proofs.Printing.{fit_none, fit_not, fit_more}
use Rattle.listing.proofs.lines.fit.Goals as goal

pub returns-then-left-need : goal.returns-then-left-need
returns-then-left-need c =
    let a = c.args in
    let short = rw (c.field_length-need.ensures, c.value_at.ensures) at c.if-left-need.true in
    sym (c.loop-k.invariant ∙ fit_not a.kinds.now a.values.now c.loop-k.k c.loop-k.left c.loop-k-test.true short)

pub loop-k-preserved : goal.loop-k-preserved
loop-k-preserved c =
    let a = c.args in
    let room = rw (c.field_length-need.ensures, c.value_at.ensures) at c.if-left-need.false in
    c.loop-k.invariant ∙ rw (c.field_length-need.ensures, c.value_at.ensures)
    (fit_more a.kinds.now a.values.now c.loop-k.k c.loop-k.left c.loop-k-test.true room)

pub returns : goal.returns
returns c =
    let a = c.args in
    sym (c.loop-k.invariant ∙ fit_none a.kinds.now a.values.now c.loop-k.k c.loop-k.left c.loop-k-test.false)
