-- What feeding the text leaves is, at each turn, what feeding the rest of it to the present state does.
use Rattle.std.proofs.Common.{◌≡◌, drop}
use Rattle.listing.specs.Feeding.{state, fed}
use Rattle.listing.proofs.reader.feed.Given as goal

abbrev pub invariant-loop-b : goal.invariant-loop-b
invariant-loop-b l = fed (state l.initial.q l.initial.line l.initial.ids l.initial.ranges l.initial.pf l.initial.pw) l.text ≡ fed (state l.q l.line l.ids l.ranges l.pf l.pw) (drop l.b-index l.text)
