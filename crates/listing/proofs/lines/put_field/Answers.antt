use Rattle.listing.proofs.Printing.{field_hex, field_decimal, tab_then}
use Rattle.listing.proofs.lines.put_field.Goals as goal

pub returns-then-kind-eq102 : goal.returns-then-kind-eq102
returns-then-kind-eq102 c =
    tab_then c.args.kind c.args.v c.args.out.now c.args.at c.requires c.put_byte-behind_tab.ensures.out_after c.put_byte-behind_tab.ensures.value (field_hex _ _ c.if-kind-eq102.true)
    c.put_hex.ensures.out_after c.put_hex.ensures.value

pub returns : goal.returns
returns c =
    tab_then c.args.kind c.args.v c.args.out.now c.args.at c.requires c.put_byte-behind_tab.ensures.out_after c.put_byte-behind_tab.ensures.value (field_decimal _ _ c.if-kind-eq102.false)
    c.put_decimal.ensures.out_after c.put_decimal.ensures.value
