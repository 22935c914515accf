-- `scatter::particle_to_grid::scatter_colored` meets its contract: in each branch.
use Rattle.std.proofs.Common.{sym, ◌∙◌}
use Rattle.scatter.proofs.Hitting.{skipped, served}
use Rattle.scatter.proofs.particle_to_grid.scatter_colored.Goals as goal

pub returns-then-is_in_region_with_color : goal.returns-then-is_in_region_with_color
returns-then-is_in_region_with_color g c = c.scatter_region.ensures ∙ served _ _ _ _ _ _ _ _ (sym c.is_in_region_with_color.ensures ∙ c.if-is_in_region_with_color.true)

pub returns-else-is_in_region_with_color : goal.returns-else-is_in_region_with_color
returns-else-is_in_region_with_color g c = skipped _ _ _ _ _ _ _ _ (sym c.is_in_region_with_color.ensures ∙ c.if-is_in_region_with_color.false)
