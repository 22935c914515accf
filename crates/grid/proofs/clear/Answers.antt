-- `grid::clear` meets its contract.
use Rattle.std.proofs.Common.{sym, ap, ◌∙◌}
use Rattle.grid.specs.Answers.{refused}
use Rattle.grid.proofs.Lengths.{clear_held}
use Rattle.grid.proofs.clear.Goals as goal

pub clear_regions-requires : goal.clear_regions-requires
clear_regions-requires c = clear_held _ _ _ _ (ap refused (sym c.check_clear.ensures ∙ c.in_ok-check_clear.was))
