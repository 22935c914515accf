-- `solver::check_order` meets its contract: before entry k none is out of turn.
use Rattle.std.proofs.Common.{arith, sym, ◌∙◌}
use Rattle.grid.specs.declared.Rule.TheVariants.{Code}
use Rattle.grid.proofs.Answers.{stop_at, go_on, none_left}
use Rattle.solver.specs.Order.{out_of_turn, turns}
use Rattle.solver.proofs.check_order.Goals as goal

pub returns-then-is_out_of_turn : goal.returns-then-is_out_of_turn
unfolding turns
returns-then-is_out_of_turn c =
    let g = c.args in
    sym (c.loop-k.invariant ∙ stop_at (out_of_turn g.ids.now g.order.now) Code _ _ c.loop-k-test.true (sym c.is_out_of_turn.ensures ∙ c.if-is_out_of_turn.true))

pub loop-k-preserved : goal.loop-k-preserved
loop-k-preserved c =
    let g = c.args in
    c.loop-k.invariant ∙ go_on (out_of_turn g.ids.now g.order.now) Code _ _ c.loop-k-test.true (sym c.is_out_of_turn.ensures ∙ c.if-is_out_of_turn.false)

pub returns : goal.returns
unfolding turns
returns c = let g = c.args in sym (c.loop-k.invariant ∙ none_left (out_of_turn g.ids.now g.order.now) Code _ _ (omega arith))
