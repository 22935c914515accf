use Rattle.std.proofs.Common.{arith, length, refl, ◌∙◌}
use Rattle.fields.proofs.Writing.{fits, full}
use Rattle.fields.proofs.out.put_bytes.Goals as goal

pub returns-then-out-at : goal.returns-then-out-at
returns-then-out-at c =
    let a = c.args in
    let p = full a.out.now a.at a.s.now (length a.s.now) refl (omega arith) in
    record { out_after = p.0; value = p.1 }

pub returns : goal.returns
returns c =
    let a = c.args in
    let p = fits a.out.now a.at a.s.now (length a.s.now) refl (omega arith) in
    record { out_after = c.copy.ensures ∙ p.0; value = p.1 }
