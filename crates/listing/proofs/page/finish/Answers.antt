-- The three cases of what the reader prints.
use Rattle.std.proofs.Common.{sym, arith}
use Rattle.std.proofs.Math.Seq.{length-take-le}
use Rattle.listing.proofs.Calling.{told, unread_printed, limit_printed, called_printed}
use Rattle.listing.proofs.page.finish.Goals as goal

pub returns-then-not-is_whole : goal.returns-then-not-is_whole
returns-then-not-is_whole c =
    told c.args.page.now c.put_refusal.ensures (unread_printed _ _ _ _ _ _ (sym c.if-not-is_whole.ensures))

pub returns-then-not-is_within : goal.returns-then-not-is_within
returns-then-not-is_within c =
    told c.args.page.now c.put_refusal-then-not-is_within.ensures
    (limit_printed _ _ _ _ _ _ (sym c.if-not-is_whole.ensures) (sym c.if-not-is_within.ensures))

pub returns : goal.returns
returns c =
    told c.args.page.now (rw (length-take-le c.args.reader.regions c.args.ids.now (omega arith)) at c.call.ensures) (called_printed _ _ _ _ _ _ (sym c.if-not-is_whole.ensures) (sym c.if-not-is_within.ensures))
