use Rattle.std.proofs.Common.{◌≡◌, ◌∙◌, arith, length}
use Rattle.listing.specs.Bench.{no_text}
use Rattle.listing.proofs.Paging.{placed, no_short}
use Rattle.listing.proofs.page.put_refusal.Goals as goal

pub returns : goal.returns
unfolding no_text
returns c =
    let short = no_short c.args.number c.args.index (omega arith) (omega arith) in
    let end : c.put_line.result ≡ length (no_text c.args.number c.args.index) =
    c.put_line.ensures.0 ∙ placed c.args.page.now 0 (no_text c.args.number c.args.index) (omega arith) ∙ omega arith
    in
    (end, c.put_line.ensures.1, omega arith)
