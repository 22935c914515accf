use Rattle.std.proofs.Common.{Option, ℕ, ap, sym, ◌∙◌, arith}
use Rattle.listing.specs.Steps.{ends}
use Rattle.listing.proofs.Scanning.{no_more, no_tab, read}
use Rattle.listing.proofs.lines.read_field.Goals.{then-text-at-via-then-text-at, then-text-at-via-else-text-at+then-text-at-ne9}
use Rattle.listing.proofs.lines.read_field.Goals as goal

pub returns-then-text-at : goal.returns-then-text-at
returns-then-text-at c =
    elim c.then-text-at.branch [
      | then-text-at-via-then-text-at w ↦ no_more _ _ _ w.if-text-at.true
      | then-text-at-via-else-text-at+then-text-at-ne9 w ↦ no_tab _ _ _ w.if-text-at.false w.if-text-at-ne9.true
    ]

pub returns-in_err-v : goal.returns-in_err-v
returns-in_err-v c =
    c.from_residual.ensures ∙ ap (λ (m : Option ℕ). ends m c.find-end.result) (sym c.in_err-v.was)
    ∙ read _ _ _ c.if-text-at.false c.if-text-at-ne9.false c.find-end.ensures.value (omega arith) c.number_in.ensures

pub returns : goal.returns
returns c =
    let tab = c.if-text-at-ne9.false in
    ap (λ (m : Option ℕ). ends m c.find-end.result) (sym c.in_ok-v.was)
    ∙ read _ _ _ c.if-text-at.false tab c.find-end.ensures.value (omega arith) c.number_in.ensures
