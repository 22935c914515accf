use Rattle.std.proofs.Common.{rules, Some, slice_range}
use Rattle.replay.specs.Lines.{IsQuestion, Question}
use Rattle.replay.proofs.Feed.{question}
use Rattle.replay.proofs.run.Goals as goal

pub reply-end-requires : goal.reply-end-requires
reply-end-requires g c =
    let p = c.in-Some.place in
    let h : Question c.loop-place.at.left c.next.new.buf (Some p) = search rules in
    let q : IsQuestion (slice_range c.next.new.buf p.from p.to) = question _ _ _ h in
    search rules
