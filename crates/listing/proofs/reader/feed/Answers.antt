-- What feeding the text leaves is, at each turn, what feeding the rest of it to the present state does.
use Rattle.std.proofs.Common.{sym, ◌∙◌}
use Rattle.listing.proofs.Taking.{fed_on, fed_whole}
use Rattle.listing.proofs.reader.feed.Goals as goal

pub loop-b-preserved : goal.loop-b-preserved
loop-b-preserved c = c.loop-b.invariant ∙ fed_on _ _ _ c.loop-b-test.true c.feed_byte-q.ensures

pub returns : goal.returns
returns c = sym (c.loop-b.invariant ∙ fed_whole _ _ _ c.loop-b-test.false)
