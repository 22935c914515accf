-- With the nodes below k looked at, the page has a line for each of them that is shown.
use Rattle.std.proofs.Common.{◌+◌, ◌≤◌, length, arith}
use Rattle.laws.specs.Store.{store}
use Rattle.listing.specs.Bench.{shown, nodes_text}
use Rattle.listing.proofs.Paging.{printed_none, page_none, printed_more, page_more}
use Rattle.listing.proofs.page.put_nodes.Goals as goal

pub loop-k-init : goal.loop-k-init
loop-k-init c =
    let n = c.args.nodes in
    (printed_none n.ids.now (store n.nf.now n.nw.now), page_none n.ids.now (store n.nf.now n.nw.now) c.args.page.now)

pub loop-k-preserved : goal.loop-k-preserved
loop-k-preserved c =
    let a = c.args in
    let n = a.nodes in
    let t = store n.nf.now n.nw.now in
    let few = n.few in
    let more = printed_more n.ids.now t c.loop-k.k c.loop-k.p c.put_shown-p.result c.loop-k.invariant.0 c.put_shown-p.ensures.0 in
    let room : length (nodes_text n.ids.now t (shown t (c.loop-k.k + 1))) ≤ length a.page.now = omega (arith, more.short, more.end) in
    (more, page_more n.ids.now t c.loop-k.k a.page.now c.loop-k.page c.loop-k.p c.loop-k.invariant.1 c.loop-k.invariant.0 room c.put_shown-p.ensures.1)
