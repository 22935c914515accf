-- `packing::morton::compact` meets its contract: its steps agree with the coordinate on each of 64 digits, so on every number.
use Rattle.packing.proofs.Linear.{arg, read, run, same}
use Rattle.packing.proofs.Ladders.{every, ladder, descend, leads}
use Rattle.packing.proofs.morton.compact.Goals as goal

pub returns : goal.returns
unfolding run descend ladder
returns g c =
    same 64 (descend (ladder g.row.AXES c.masks.result)) (read (every g.row.AXES) arg) (leads c.requires c.masks.ensures).1 c.args.v c.ranges.v.fits
