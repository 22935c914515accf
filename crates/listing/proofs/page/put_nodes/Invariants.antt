-- With the nodes below k looked at, the page has a line for each of them that is shown.
use Rattle.std.proofs.Common.{◌≡◌}
use Rattle.fields.specs.Write.{put_at}
use Rattle.laws.specs.Store.{store}
use Rattle.listing.specs.Bench.{shown, nodes_text}
use Rattle.listing.specs.Steps.{Printed}
use Rattle.listing.proofs.page.put_nodes.Given as goal

abbrev pub invariant-loop-k : goal.invariant-loop-k
invariant-loop-k l =
    let n = l.nodes in Printed n.ids.now (store n.nf.now n.nw.now) l.k l.p × (l.page ≡ put_at l.initial.page 0 (nodes_text n.ids.now (store n.nf.now n.nw.now) (shown (store n.nf.now n.nw.now) l.k)))
