-- `scatter::particle_to_grid::ForAll`'s `unload` meets its contract, in the order of the definition.
use Rattle.std.proofs.Common.{List, get_or, ap}
use Rattle.std.specs.Float.{nan}
use Rattle.std.specs.Float.Ieee.{Float}
use Rattle.scatter.specs.Hit.{hit_by, hit_node}
use Rattle.scatter.proofs.particle_to_grid.ForAllPass.unload.Goals as goal

pub returns : goal.returns
unfolding hit_node hit_by
returns c =
    let d = c.dpt-dpt.ensures in
    rw (
      ← c.args.at.now.weighs,
      c.inv_exact-inv.ensures,
      ap (λ (xs : List Float). get_or xs 0 nan) d,
      ap (λ (xs : List Float). get_or xs 1 nan) d,
      c.weight-weight.ensures,
    )
