use Rattle.std.proofs.lemmas.Bool.{not-true, not-false}
use Rattle.std.proofs.Common.{◌∙◌}
use Rattle.listing.proofs.Taking.{unread_on, line_fed, byte_fed}
use Rattle.listing.proofs.reader.feed_byte.Goals as goal

pub returns-then-not-reader : goal.returns-then-not-reader
returns-then-not-reader c = unread_on _ _ (not-true _ c.if-not-reader.true)

pub returns-then-b-eq10 : goal.returns-then-b-eq10
returns-then-b-eq10 c = c.end_line.ensures ∙ line_fed _ _ (not-false _ c.if-not-reader.false) c.if-b-eq10.true

pub returns : goal.returns
returns c = c.push.ensures ∙ byte_fed _ _ (not-false _ c.if-not-reader.false) c.if-b-eq10.false
