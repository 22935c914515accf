-- `solver::check_order` meets its contract: before entry k none is out of turn.
use Rattle.std.specs.Prelude.{◌≡◌, List, ℕ, ◌-◌, length}
use Rattle.grid.specs.Answers.{Answer, refuse, first_of}
use Rattle.grid.specs.declared.Rule.TheVariants.{Code}
use Rattle.solver.specs.Order.{out_of_turn}
use Rattle.solver.proofs.check_order.Given as goal

abbrev pub judge : List ℕ → List ℕ → ℕ → Answer
judge ids order i = refuse (out_of_turn ids order i) Code i

abbrev pub invariant-loop-k : goal.invariant-loop-k
invariant-loop-k l = first_of (judge l.ids l.order) 0 (length l.order) ≡ first_of (judge l.ids l.order) l.k (length l.order - l.k)
