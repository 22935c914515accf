-- `packing::morton::put` meets its contract: antt has computed where the digits of each axis stand.
use Rattle.std.proofs.Common.{ap, ◌∙◌}
use Rattle.packing.specs.Mask.{place}
use Rattle.packing.proofs.Placing.{put_axis}
use Rattle.packing.proofs.Computed.{layout}
use Rattle.packing.proofs.morton.put.Goals as goal

pub returns : goal.returns
returns g c =
    let e = c.from-c.ensures in
    put_axis (layout c.requires.of c.args.k c.requires.within) c.spread.ensures (rw e c.ranges.coordinate.fits) ∙ ap (place _) e
