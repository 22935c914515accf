-- `grid::check_clear` meets its contract.
use Rattle.std.proofs.Common.{rules}
use Rattle.grid.specs.Clear.{clear_check}
use Rattle.grid.proofs.Answers.{unless_end}
use Rattle.grid.proofs.check_clear.Goals as goal

pub returns-then-not-ids-regions : goal.returns-then-not-ids-regions
unfolding clear_check
returns-then-not-ids-regions c = rw (← c.holds_nodes.ensures, c.if-not-ids-regions.true)

pub returns-in_err-check_limits : goal.returns-in_err-check_limits
unfolding clear_check
returns-in_err-check_limits c =
    rw (← c.holds_nodes.ensures, c.if-not-ids-regions.false, ← c.check_limits.ensures, c.in_err-check_limits.was) (search rules)

pub returns : goal.returns
unfolding clear_check
returns c =
    rw (
      ← c.holds_nodes.ensures,
      c.if-not-ids-regions.false,
      ← c.check_limits.ensures,
      c.in_ok-check_limits.was,
      unless_end,
    ) c.check_regions.ensures
