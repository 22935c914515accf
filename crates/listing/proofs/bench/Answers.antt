-- The page holds the answer to the whole text, and its front is put into out.
use Rattle.std.proofs.Common.{refl, ◌∙◌, ℕ, arith}
use Rattle.std.proofs.Math.ListN.{length-replicate}
use Rattle.numeric.specs.Bits.{none}
use Rattle.listing.proofs.Calling.{printed_answer, room, front_put}
use Rattle.listing.proofs.bench.Goals as goal

pub returns : goal.returns
returns c =
    let text = c.args.text.now in
    let f = c.finish-n.ensures in
    let e = printed_answer _ _ _ _ _ _ _ _ text c.start.ensures
    (record { line = refl; ids = refl; ranges = refl; particles = record { floats_long = length-replicate 6656 none; words_long = length-replicate {A = ℕ} 1024 0 } }) (omega arith) c.feed-r.ensures in
    let t = front_put _ f.0 f.1 (room _ _ f.1 (length-replicate {A = ℕ} 92160 0) f.2) ∙ e in
    rw (← t) (c.put_bytes.ensures.value, c.put_bytes.ensures.out_after)
