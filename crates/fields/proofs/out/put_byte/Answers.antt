use Rattle.std.proofs.Common.{refl, ◌∙◌, ◌∷◌, [], add-one, arith}
use Rattle.std.proofs.Math.Seq.{set_split}
use Rattle.fields.proofs.Writing.{fits, full}
use Rattle.fields.proofs.out.put_byte.Goals as goal

pub returns-then-at-out : goal.returns-then-at-out
returns-then-at-out c =
    let a = c.args in
    let p = fits a.out.now a.at (a.b ∷ []) 1 refl (omega arith) in
    record { out_after = set_split _ _ _ c.if-at-out.true ∙ (rw add-one at p.0); value = p.1 }

pub returns : goal.returns
returns c =
    let a = c.args in
    let p = full a.out.now a.at (a.b ∷ []) 1 refl (omega arith) in
    record { out_after = p.0; value = p.1 }
