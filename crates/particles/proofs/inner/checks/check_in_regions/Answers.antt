-- `particles::inner::checks::check_in_regions` meets its contract: before region r every particle is in its region.
use Rattle.std.proofs.Common.{arith, rules, ◌≡◌, refl, sym, ap, ◌∙◌}
use Rattle.laws.specs.Store.{store}
use Rattle.laws.proofs.Refusals.{first_stop, first_go, first_end}
use Rattle.grid.specs.Answers.{refused, done}
use Rattle.particles.specs.Table.{out_of_regions}
use Rattle.particles.proofs.inner.checks.check_in_regions.Invariants.{judge}
use Rattle.particles.proofs.inner.checks.check_in_regions.Goals as goal

pub first_particle-requires : goal.first_particle-requires
first_particle-requires c = omega (arith, c.requires.within c.loop-r.r (omega arith), c.start_of-start.ensures, c.count_of-count.ensures)

pub returns-in_err-first_particle : goal.returns-in_err-first_particle
unfolding out_of_regions
returns-in_err-first_particle c =
    let s = c.args.sample in
    let outs = judge s.h s.ids.now s.ranges.now (store s.pf.now s.pw.now) in
    let e : outs c.loop-r.r ≡ c.first_particle.result = rw (← c.start_of-start.ensures, ← c.count_of-count.ensures) (sym c.first_particle.ensures) in
    sym (c.loop-r.invariant ∙ first_stop refused done outs _ _ _ (omega arith) (e ∙ c.in_err-first_particle.was) refl ∙ search rules)

pub loop-r-preserved : goal.loop-r-preserved
loop-r-preserved c =
    let s = c.args.sample in
    c.loop-r.invariant
    ∙ first_go refused done (judge s.h s.ids.now s.ranges.now (store s.pf.now s.pw.now)) _ _ (omega arith)
    (rw (← c.start_of-start.ensures, ← c.count_of-count.ensures) (ap refused (sym c.first_particle.ensures ∙ c.in_ok-first_particle.was)))

pub returns : goal.returns
unfolding out_of_regions
returns c =
    let s = c.args.sample in
    sym (c.loop-r.invariant ∙ first_end refused done (judge s.h s.ids.now s.ranges.now (store s.pf.now s.pw.now)) _ _ (omega arith))
