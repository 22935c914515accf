use Rattle.std.proofs.Common.{arith}
use Rattle.laws.specs.Store.{store}
use Rattle.listing.specs.Bench.{ok_text}
use Rattle.listing.proofs.Paging.{listed_put}
use Rattle.listing.proofs.page.put_listed.Goals as goal

pub returns : goal.returns
unfolding ok_text
returns c =
    let n = c.args.nodes in
    let few = n.few in
    listed_put n.ids.now (store n.nf.now n.nw.now) _ c.args.page.now c.put_nodes-p.new.page c.put_nodes-p.result (omega arith) (omega arith) c.put_nodes-p.ensures.0 c.put_nodes-p.ensures.1
    c.put_line.ensures.0 c.put_line.ensures.1
