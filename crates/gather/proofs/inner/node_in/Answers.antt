-- `gather::inner::node_in` meets its contract: a block's places are those of nodes.
use Rattle.gather.proofs.Columns.{is_some}
use Rattle.gather.proofs.inner.node_in.Goals as goal

pub node_at-requires : goal.node_at-requires
node_at-requires c =
    let p = c.requires in
    (is_some _ (search (p.3.there, p.1, p.2)), p.3.places _, p.3.held)

pub returns : goal.returns
returns c = c.node_at.ensures
