-- Printing all fields is, at each turn, printing those that are left at the place.
use Rattle.std.proofs.Common.{◌≡◌, ◌+◌, ◌≤◌, length, sym, ap, ◌∙◌, arith}
use Rattle.listing.proofs.Printing.{left, left_none, length_one, put_one, put_last}
use Rattle.listing.proofs.lines.put_fields.Goals as goal

pub put_field-place-requires : goal.put_field-place-requires
put_field-place-requires c =
    let a = c.args in
    rw c.value_at.ensures (omega (arith, length_one a.kinds.now a.values.now c.loop-k.k c.loop-k-test.true))

pub loop-k-preserved : goal.loop-k-preserved
loop-k-preserved c =
    let a = c.args in
    let room : c.loop-k.place + length (left a.kinds.now a.values.now c.loop-k.k) ≤ length c.loop-k.out = omega (arith, c.requires) in
    let one = put_one a.kinds.now a.values.now c.loop-k.out c.loop-k.place c.loop-k.k c.loop-k-test.true room
    (rw c.value_at.ensures at c.put_field-place.ensures.1) (rw c.value_at.ensures at c.put_field-place.ensures.0) in
    (one.0 ∙ c.loop-k.invariant.0, c.loop-k.invariant.1 ∙ one.1)

pub returns : goal.returns
returns c =
    let a = c.args in
    let none = left_none a.kinds.now a.values.now c.loop-k.k c.loop-k-test.false in
    let end : c.loop-k.place ≡ a.at + length (left a.kinds.now a.values.now 0) = omega (arith, ap length none) in
    (end, sym (c.loop-k.invariant.1 ∙ put_last a.kinds.now a.values.now c.loop-k.out c.loop-k.place c.loop-k.k c.loop-k-test.false (omega (arith, c.requires))))
