-- `particles::inner::spot::spot_of` meets its contract: the corner is that of the cell before the nearest.
use Rattle.particles.proofs.Placing.{in_range_lem}
use Rattle.particles.proofs.inner.spot.spot_of.Goals as goal

pub nearest-near-requires : goal.nearest-near-requires
nearest-near-requires c = in_range_lem c.args.cell_width c.args.q.now c.requires
