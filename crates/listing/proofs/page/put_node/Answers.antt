use Rattle.std.proofs.Common.{arith}
use Rattle.listing.proofs.Paging.{node_values_lem, node_put}
use Rattle.listing.proofs.page.put_node.Goals as goal

pub returns : goal.returns
returns c =
    let g = c.args in
    let values = node_values_lem g.ids.now g.k g.n c.cell_of_region.ensures c.unpack-cell.ensures c.bits.ensures.0 c.bits-2.ensures.0 c.bits-3.ensures.0 c.bits-4.ensures.0 c.bits-5.ensures.0 in
    node_put g.ids.now g.k g.n g.page.now g.at (omega (arith, c.requires)) values
    (omega arith, (omega arith, (c.bits.ensures.1, (c.bits-2.ensures.1, (c.bits-3.ensures.1, (c.bits-4.ensures.1, (c.bits-5.ensures.1, tt)))))))
    c.put_line.ensures.0 c.put_line.ensures.1
