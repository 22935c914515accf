use Rattle.std.proofs.Common.{◌∙◌, arith}
use Rattle.std.proofs.lemmas.Bool.Decides.{nat_tests}
use Rattle.std.proofs.lemmas.Option.{MatchOption-at_some, MatchOption-at_none}
use Rattle.fields.specs.Read.{hex_of}
use Rattle.fields.proofs.Reading.{hex_none, read_got}
use Rattle.fields.proofs.hex.Goals as goal

pub returns-in_err-text : goal.returns-in_err-text
returns-in_err-text c =
    let a = c.args in
    c.from_residual.ensures ∙ MatchOption-at_none _ _ c.in_err-text.was (read_got (hex_of a.digits) a.from a.to a.s.now c.get.result c.get.ensures.lookup (hex_none a.digits))

pub returns-then-digits-eq0 : goal.returns-then-digits-eq0
unfolding hex_of
returns-then-digits-eq0 c =
    let a = c.args in
    let h = MatchOption-at_some _ _ _ c.in_ok-text.was (read_got (hex_of a.digits) a.from a.to a.s.now c.get.result c.get.ensures.lookup (hex_none a.digits)) in
    grind (arith, nat_tests)

pub returns : goal.returns
unfolding hex_of
returns c =
    let a = c.args in
    let h = MatchOption-at_some _ _ _ c.in_ok-text.was (read_got (hex_of a.digits) a.from a.to a.s.now c.get.result c.get.ensures.lookup (hex_none a.digits)) in
    grind (arith, nat_tests)
