-- Printing all fields is, at each turn, printing those that are left at the place.
use Rattle.std.proofs.Common.{◌≡◌, ◌+◌, length}
use Rattle.fields.specs.Write.{put_at}
use Rattle.listing.proofs.Printing.{left}
use Rattle.listing.proofs.lines.put_fields.Given as goal

abbrev pub invariant-loop-k : goal.invariant-loop-k
invariant-loop-k l = (l.place + length (left l.kinds l.values l.k) ≡ l.at + length (left l.kinds l.values 0))
    × (put_at l.initial.out l.at (left l.kinds l.values 0) ≡ put_at l.out l.place (left l.kinds l.values l.k))
