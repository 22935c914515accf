-- `particles::inner::checks::check_stage` meets its contract: what is found of the call, then of its particles.
use Rattle.std.proofs.Common.{arith, rules, sym, ◌∙◌}
use mathlib.Core.Bool.{and-true}
use Rattle.laws.specs.Store.{store}
use Rattle.grid.specs.Table.{limits}
use Rattle.grid.proofs.Steps.{passes}
use Rattle.particles.proofs.Staging.{check_is, looked_at}
use Rattle.particles.proofs.inner.checks.check_stage.Goals as goal

pub returns-in_err-check_lists : goal.returns-in_err-check_lists
returns-in_err-check_lists c = rw (check_is, and-true c.args.settings, ← c.check_lists.ensures, c.in_err-check_lists.was) (search rules)

pub check_particles-requires : goal.check_particles-requires
check_particles-requires c =
    let g = c.args in
    let there = looked_at g.regions g.ids.now g.ranges.now g.particles (store g.pf.now g.pw.now) g.nf g.nw (limits g.regions g.particles 0) g.settings g.own
    (sym c.check_lists.ensures ∙ c.in_ok-check_lists.was) in
    (there.0, omega (arith, there.1), omega (arith, there.2))

pub returns : goal.returns
returns c =
    rw (check_is, and-true c.args.settings, ← c.check_lists.ensures, ← c.check_particles.ensures)
    (passes _ _ c.in_ok-check_lists.was)
