-- `packing::morton::take` meets its contract: antt has computed where the digits of each axis stand.
use Rattle.packing.proofs.Placing.{get_axis}
use Rattle.packing.proofs.Computed.{layout}
use Rattle.packing.proofs.morton.take.Goals as goal

pub returns : goal.returns
returns g c = (get_axis (layout c.requires.of c.args.k c.requires.within) c.compact.ensures c.ranges.id.fits).is

pub overflow_cast-result : goal.overflow_cast-result
overflow_cast-result g c = (get_axis (layout c.requires.of c.args.k c.requires.within) c.compact.ensures c.ranges.id.fits).fits
