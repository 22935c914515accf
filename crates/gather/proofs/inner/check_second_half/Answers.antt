-- `gather::inner::check_second_half` meets its contract: what is found of the call, then of its records.
use Rattle.std.proofs.Common.{◌≡◌, sym, ap, ◌∙◌, arith}
use Rattle.std.proofs.lemmas.Grind.{common_steps}
use Rattle.laws.specs.Store.{store}
use Rattle.grid.specs.Answers.{refused}
use Rattle.grid.proofs.Steps.{passed}
use Rattle.gather.proofs.Checking.{check_is, fitting, Fitted, fitted}
use Rattle.gather.proofs.inner.check_second_half.Goals.{then-holds_particles, else-holds_particles}
use Rattle.gather.proofs.inner.check_second_half.Goals as goal

pub returns-in_err-check_call : goal.returns-in_err-check_call
returns-in_err-check_call c = rw check_is (grind (arith, common_steps))

pub check_records-requires : goal.check_records-requires
check_records-requires c =
    let g = c.args in
    let fit : c.if-holds_particles.check_call ≡ fitting g.particles (store g.pf.now g.pw.now) (store g.gf.now g.gw.now) = grind (arith, common_steps) in
    let f : Fitted g.particles (store g.pf.now g.pw.now) (store g.gf.now g.gw.now) =
    fitted _ _ _ (rw fit at (passed _ _ _ _ (ap refused (sym c.check_call.ensures ∙ c.in_ok-check_call.was))).lengths) in
    (omega (arith, f.particles_held.floats_long), omega (arith, f.particles_held.words_long))

pub returns : goal.returns
returns c = rw check_is (grind (arith, common_steps))
