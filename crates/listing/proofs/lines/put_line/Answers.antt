use Rattle.std.proofs.Common.{sym, ◌∙◌}
use Rattle.listing.proofs.Printing.{line_full, fields_fit, line_put}
use Rattle.listing.proofs.lines.put_line.Goals as goal

pub returns-then-not-has_room : goal.returns-then-not-has_room
returns-then-not-has_room c =
    let a = c.args in
    line_full a.head.now a.kinds.now a.values.now a.out.now a.at (sym c.has_room.ensures ∙ c.if-not-has_room.true)

pub put_fields-behind_fields-requires : goal.put_fields-behind_fields-requires
put_fields-behind_fields-requires c =
    let a = c.args in
    fields_fit a.head.now a.kinds.now a.values.now a.out.now a.at (sym c.has_room.ensures ∙ c.if-not-has_room.false) c.put_bytes-behind_head.ensures.out_after c.put_bytes-behind_head.ensures.value

pub returns : goal.returns
returns c =
    let a = c.args in
    line_put a.head.now a.kinds.now a.values.now a.out.now a.at (sym c.has_room.ensures ∙ c.if-not-has_room.false) c.put_bytes-behind_head.ensures.out_after c.put_bytes-behind_head.ensures.value
    c.put_fields-behind_fields.ensures.1 c.put_fields-behind_fields.ensures.0 c.put_byte.ensures.out_after c.put_byte.ensures.value
