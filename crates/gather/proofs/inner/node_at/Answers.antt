-- `gather::inner::node_at` meets its contract: the number stands for a place of the nodes.
use Rattle.std.proofs.Common.{sym, ap, ◌∙◌, arith}
use Rattle.laws.specs.Store.{store}
use Rattle.particles.proofs.Blocking.{one_more}
use Rattle.gather.specs.Gather.{node_found}
use Rattle.gather.proofs.inner.node_at.Goals as goal

pub read_node-requires : goal.read_node-requires
read_node-requires c = omega (arith, one_more c.args.number c.place_of.result c.place_of.ensures)

pub returns : goal.returns
returns c =
    let g = c.args in
    c.read_node.ensures ∙ ap (node_found (store g.nf.now g.nw.now)) (sym c.place_of.ensures)
