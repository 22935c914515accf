-- `boundary::grid_update::mk_clear_scatter_update2` meets its contract, by what the function of solver says.
use Rattle.std.proofs.Common.{ap, ◌∙◌, rules}
use Rattle.grid.specs.Answers.{refused}
use Rattle.boundary.proofs.Crossing.{answered}
use Rattle.boundary.proofs.grid_update.mk_clear_scatter_update2.Goals as goal

pub returns : goal.returns
returns c =
    let e = c.clear_scatter_update.ensures in
    let crossing = answered _ _ (e.0, e.1) c.from.ensures in
    (crossing.0, crossing.1, crossing.2, λ done. e.2 (ap refused e.0 ∙ done))
