-- Whether all fields fit is, at each turn, whether those that are left fit into what is left.
use Rattle.std.proofs.Common.{◌≡◌, leb, length}
use Rattle.listing.proofs.Printing.{left}
use Rattle.listing.proofs.lines.fit.Given as goal

abbrev pub invariant-loop-k : goal.invariant-loop-k
invariant-loop-k l = leb (length (left l.kinds l.values 0)) l.room ≡ leb (length (left l.kinds l.values l.k)) l.left
