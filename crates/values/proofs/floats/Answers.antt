use lib.Ieee.{of_bits}
use Rattle.values.specs.Table.{claim}
use Rattle.values.proofs.floats.Goals as goal

pub returns : goal.returns
unfolding of_bits
returns c =
    let r = claim.1.1.1.1.1.1.1.1 in
    rw (c.eval_all-weights.ensures, c.round.ensures, c.root.ensures, r.0, r.1.0, r.1.1.0)
