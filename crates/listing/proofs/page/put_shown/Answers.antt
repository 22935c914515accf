use Rattle.std.proofs.Common.{arith}
use Rattle.laws.specs.Store.{store}
use Rattle.listing.proofs.Paging.{grown, stayed}
use Rattle.listing.proofs.page.put_shown.Goals as goal

pub returns-then-n : goal.returns-then-n
returns-then-n c =
    let a = c.args in
    let n = a.nodes in
    grown n.ids.now (store n.nf.now n.nw.now) a.k c.read_node-n.ensures c.if-n.true a.p a.page.now c.put_node.ensures.0 c.put_node.ensures.1 c.put_node.ensures.2

pub returns : goal.returns
returns c =
    let a = c.args in
    let n = a.nodes in
    stayed n.ids.now (store n.nf.now n.nw.now) a.k c.read_node-n.ensures c.if-n.false a.p a.page.now (omega (arith, c.requires))
