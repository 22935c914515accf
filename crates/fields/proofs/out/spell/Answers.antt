use Rattle.std.proofs.Common.{◌≡◌, ◌+◌, ◌-◌, ◌≤◌, length, take, drop, ap, ◌∙◌, arith}
use Rattle.std.proofs.Math.ListN.{length-take, length-drop}
use Rattle.fields.specs.Write.{digits_of}
use Rattle.fields.proofs.Writing.{fits, full, part_fits, length_digits}
use Rattle.fields.proofs.out.spell.Goals as goal

pub returns-then-out-at : goal.returns-then-out-at
returns-then-out-at c =
    let a = c.args in
    let p = full a.out.now a.at (digits_of a.base a.digits a.n) a.digits (length_digits a.base a.digits a.n) (omega arith) in
    record { out_after = p.0; value = p.1 }

pub returns : goal.returns
returns c =
    let a = c.args in
    let room : a.at + a.digits ≤ length a.out.now = omega arith in
    let part : length (take (a.at + a.digits - a.at) (drop a.at a.out.now)) ≡ a.digits = rw (length-take, length-drop) (omega arith) in
    let size = length_digits a.base a.digits a.n in
    record {
      out_after = part_fits a.out.now a.at (digits_of a.base a.digits a.n) a.digits size (c.fill.ensures ∙ ap (λ k. digits_of a.base k a.n) part) room;
      value = (fits a.out.now a.at (digits_of a.base a.digits a.n) a.digits size room).1;
    }
