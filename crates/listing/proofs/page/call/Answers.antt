-- The nodes are blank.
use Rattle.std.proofs.Common.{arith}
use Rattle.listing.proofs.Calling.{front_blank}
use Rattle.listing.proofs.page.call.Goals as goal

pub scatter_and_print-requires : goal.scatter_and_print-requires
scatter_and_print-requires c =
    let few = c.args.given.few in
    front_blank _ 7168 1024 (omega arith) (omega arith)
