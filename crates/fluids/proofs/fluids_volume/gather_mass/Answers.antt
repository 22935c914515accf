-- `fluids::fluids_volume::gather_mass` meets its contract: each node adds its weighted mass.
use Rattle.std.proofs.Common.{◌∙◌, rules}
use Rattle.fluids.specs.Fluids.{weighing, gathered_in}
use Rattle.fluids.proofs.fluids_volume.gather_mass.Goals as goal

pub returns : goal.returns
unfolding gathered_in
returns c =
    let at = c.spot_of-at in
    c.over_stencil.ensures (weighing at.result.weights) (λ a b shift n added. search rules)
    ∙ rw (at.result.weighs, at.ensures.width, at.ensures.way, at.ensures.start)
