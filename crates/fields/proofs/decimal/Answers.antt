use Rattle.std.proofs.Common.{◌∙◌, refl, arith}
use Rattle.std.proofs.lemmas.Bool.Decides.{nat_tests}
use Rattle.std.proofs.lemmas.Option.{MatchOption-at_some, MatchOption-at_none}
use Rattle.fields.specs.Read.{decimal_of}
use Rattle.fields.proofs.Reading.{decimal_is, read_got}
use Rattle.fields.proofs.decimal.Goals as goal

pub returns-in_err-text : goal.returns-in_err-text
unfolding decimal_of
returns-in_err-text c =
    let a = c.args in
    c.from_residual.ensures ∙ MatchOption-at_none _ _ c.in_err-text.was (read_got decimal_of a.from a.to a.s.now c.get.result c.get.ensures.lookup refl)

pub returns-then-is_empty : goal.returns-then-is_empty
unfolding decimal_of
returns-then-is_empty c =
    let a = c.args in
    let h = MatchOption-at_some _ _ _ c.in_ok-text.was (read_got decimal_of a.from a.to a.s.now c.get.result c.get.ensures.lookup refl) in
    let e = decimal_is c.in_ok-text.text.now in
    grind (arith, nat_tests)

pub returns : goal.returns
unfolding decimal_of
returns c =
    let a = c.args in
    let h = MatchOption-at_some _ _ _ c.in_ok-text.was (read_got decimal_of a.from a.to a.s.now c.get.result c.get.ensures.lookup refl) in
    let e = decimal_is c.in_ok-text.text.now in
    grind (arith, nat_tests)
