-- `boundary::fluids_volume::mk_recompute_fluids_volumes2` meets its contract, by what the function of fluids says.
use Rattle.std.proofs.Common.{rules}
use Rattle.boundary.proofs.Crossing.{answered}
use Rattle.boundary.proofs.fluids_volume.mk_recompute_fluids_volumes2.Goals as goal

pub returns : goal.returns
returns c =
    let e = c.recompute_fluids_volumes.ensures in
    let r = answered _ _ (e.0, e.1) c.from.ensures in
    (r.0, r.1, r.2, (answered _ _ (e.0, e.2) c.from.ensures).2)
