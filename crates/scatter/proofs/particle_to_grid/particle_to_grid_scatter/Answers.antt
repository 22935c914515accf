-- `scatter::particle_to_grid::particle_to_grid_scatter` meets its contract.
use Rattle.std.proofs.Common.{sym, ap, ◌∙◌}
use Rattle.grid.specs.Answers.{refused}
use Rattle.scatter.proofs.Checking.{ready}
use Rattle.scatter.proofs.particle_to_grid.particle_to_grid_scatter.Goals as goal

pub scatter_all-requires : goal.scatter_all-requires
scatter_all-requires c = (ready _ _ _ _ _ _ _ _ _ _ _ (ap refused (sym c.check_scatter.ensures ∙ c.in_ok-check_scatter.was))).ready
