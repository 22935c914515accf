-- `gather::grid_to_particle::add` meets its contract, in the order of the definition.
use Rattle.std.proofs.Common.{List, get_or, ap}
use Rattle.std.specs.Prelude.{Float}
use Rattle.std.specs.Float.{nan}
use Rattle.gather.specs.Transfer.{taken_from}
use Rattle.gather.proofs.grid_to_particle.add.Goals as goal

pub returns : goal.returns
unfolding taken_from
returns c =
    let d = c.dpt-dpt.ensures in
    rw (
      ← c.args.at.now.weighs,
      c.inv_exact.ensures,
      ap (λ (xs : List Float). get_or xs 0 nan) d,
      ap (λ (xs : List Float). get_or xs 1 nan) d,
      c.weight-weight.ensures,
      c.inv_d-inv_d.ensures,
    )
