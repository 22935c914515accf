-- `update::grid_update::grid_update` meets its contract: what is not refused has a handling that is known.
use Rattle.std.proofs.Common.{sym, ap, ◌∙◌}
use Rattle.std.proofs.lemmas.Bool.{false≢true}
use Rattle.grid.specs.Answers.{refused}
use Rattle.update.specs.Boundary.{known}
use Rattle.update.proofs.Checking.{shown}
use Rattle.update.proofs.grid_update.grid_update.Goals as goal

pub returns-in_err-handling : goal.returns-in_err-handling
returns-in_err-handling c =
    let g = c.args in
    let done = shown _ _ _ _ _ _ _ _ _ g.nf.now g.nw.now (ap refused (sym c.check_update.ensures ∙ c.in_ok-check_update.was)) in
    absurd (false≢true (ap known (sym c.in_err-handling.was ∙ c.try_from.ensures) ∙ done.knows))

pub update_regions-requires : goal.update_regions-requires
update_regions-requires c = (shown _ _ _ _ _ _ _ _ _ _ _ (ap refused (sym c.check_update.ensures ∙ c.in_ok-check_update.was))).ready
