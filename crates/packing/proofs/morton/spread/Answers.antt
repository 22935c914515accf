-- `packing::morton::spread` meets its contract: its steps agree with the place on each of 64 digits, so on every number.
use Rattle.packing.proofs.Linear.{arg, placed, run, same}
use Rattle.packing.proofs.Ladders.{every, ladder, climb, leads}
use Rattle.packing.proofs.morton.spread.Goals as goal

pub returns : goal.returns
unfolding run climb ladder
returns g c =
    same 64 (climb (ladder g.row.AXES c.masks.result)) (placed (every g.row.AXES) arg) (leads c.requires c.masks.ensures).0 c.args.v c.ranges.v.fits
