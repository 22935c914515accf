-- `particles::inner::checks::first_particle` meets its contract: the rule refuses none before p.
use Rattle.std.proofs.Common.{arith, rules, refl, ◌+◌, ◌-◌, ◌≡◌, sym, ap, ◌∙◌}
use Rattle.laws.specs.Store.{store}
use Rattle.laws.proofs.Refusals.{first_stop, first_go, first_end}
use Rattle.grid.specs.Answers.{refused, done}
use Rattle.particles.specs.Table.{first_particle}
use Rattle.particles.proofs.inner.checks.first_particle.Invariants.{at}
use Rattle.particles.proofs.inner.checks.first_particle.Goals as goal

pub loop-p-init : goal.loop-p-init
unfolding first_particle
loop-p-init c = let e : c.args.start + c.args.count - c.args.start ≡ c.args.count = omega arith in rw e refl

pub returns-in_err-judge : goal.returns-in_err-judge
returns-in_err-judge c =
    let a = c.args in
    let r = c.in_err-judge.was in
    let bad = at a.rule a.h a.ids.now a.region (store a.pf.now a.pw.now) in
    let e : bad c.loop-p.p ≡ c.judge.result = rw (← c.read_particle.ensures) (sym c.judge.ensures) in
    sym (c.loop-p.invariant ∙ first_stop refused done bad _ _ _ (omega arith) (e ∙ r) refl ∙ search rules)

pub loop-p-preserved : goal.loop-p-preserved
loop-p-preserved c =
    let a = c.args in
    c.loop-p.invariant
    ∙ first_go refused done (at a.rule a.h a.ids.now a.region (store a.pf.now a.pw.now)) _ _ (omega arith)
    (rw (← c.read_particle.ensures) (ap refused (sym c.judge.ensures ∙ c.in_ok-judge.was)))

pub returns : goal.returns
returns c =
    let a = c.args in
    sym (c.loop-p.invariant ∙ first_end refused done (at a.rule a.h a.ids.now a.region (store a.pf.now a.pw.now)) _ _ (omega arith))
