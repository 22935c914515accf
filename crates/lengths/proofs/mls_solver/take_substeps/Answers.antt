-- `lengths::mls_solver::take_substeps` meets its contract: after `count` substeps the step goes on as the definition does.
use Rattle.std.proofs.Common.{◌≡◌, sym, ◌∙◌, length, arith, rules}
use Rattle.lengths.proofs.Walking.{end_walk, turn, last}
use Rattle.lengths.proofs.mls_solver.take_substeps.Goals as goal

pub returns-in-Some : goal.returns-in-Some
returns-in-Some c = sym (c.loop-count.invariant ∙ end_walk _ _ _ _ _ _ _ (sym c.end_after.ensures ∙ c.in-Some.is))

pub returns-in_err-refuse : goal.returns-in_err-refuse
returns-in_err-refuse c =
    let t = c.loop-count.invariant ∙ turn _ _ _ _ _ _ (sym c.end_after.ensures ∙ c.in_default.is) c.loop-count-test.true in
    rw (t, ← c.is_allowed.ensures, ← c.refuse.ensures, c.in_err-refuse.was) (search rules)

pub loop-count-preserved : goal.loop-count-preserved
loop-count-preserved c =
    let t = c.loop-count.invariant ∙ turn _ _ _ _ _ _ (sym c.end_after.ensures ∙ c.in_default.is) c.loop-count-test.true in
    rw (t, ← c.is_allowed.ensures, ← c.refuse.ensures, c.in_ok-refuse.was, c.raise-remaining.ensures)

pub returns : goal.returns
returns c =
    let e : c.loop-count.count ≡ length c.args.dts.now = omega arith in
    rw (c.unwrap_or-end.ensures, c.end_after-2.ensures, ← e) (sym (c.loop-count.invariant ∙ last _ _ _ _ _ _ e))
