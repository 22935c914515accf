use Rattle.std.proofs.Common.{◌∙◌}
use Rattle.values.specs.Table.{claim}
use Rattle.values.proofs.whole.Goals as goal

pub returns : goal.returns
returns c =
    let five = c.pack-five.ensures ∙ claim.1.0 in
    let negative = c.packi-negative.ensures ∙ claim.1.1.0 in
    let negative3 = c.packi-negative3.ensures ∙ claim.1.1.1.1.1.1.0 in
    rw (c.pack.ensures, c.packed_add.ensures, c.pack-2.ensures, c.pack-3.ensures, c.packed_add-2.ensures, five, negative, negative3, claim.0, claim.1.1.1.0, claim.1.1.1.1.0, claim.1.1.1.1.1.0, claim.1.1.1.1.1.1.1.0)
