-- `solver::check_in_order` meets its contract: the order's length, then the lists, the order, the particles.
use Rattle.std.proofs.Common.{sym, ◌∙◌, arith, rules}
use Rattle.laws.specs.Store.{store}
use Rattle.grid.specs.Answers.{done}
use Rattle.grid.specs.Table.{limits}
use Rattle.particles.proofs.Staging.{looked_at}
use Rattle.solver.proofs.Turning.{too_long, in_steps}
use Rattle.solver.proofs.check_in_order.Goals as goal

pub returns-then-order-given : goal.returns-then-order-given
returns-then-order-given c = too_long _ _ _ _ _ _ _ _ _ _ _ (λ e. omega (arith, e))

pub returns-in_err-check_lists : goal.returns-in_err-check_lists
returns-in_err-check_lists c =
    rw (in_steps _ _ _ _ _ _ _ _ _ _ _ c.if-order-given.false, ← c.is_set.ensures, ← c.check_lists.ensures, c.in_err-check_lists.was) (search rules)

pub returns-in_err-check_order : goal.returns-in_err-check_order
returns-in_err-check_order c =
    rw (
      in_steps _ _ _ _ _ _ _ _ _ _ _ c.if-order-given.false,
      ← c.is_set.ensures,
      ← c.check_lists.ensures,
      c.in_ok-check_lists.was,
      ← c.check_order.ensures,
      c.in_err-check_order.was,
    )
    (search rules)

pub check_particles-requires : goal.check_particles-requires
check_particles-requires c =
    let g = c.args.given in
    looked_at g.regions g.ids.now g.ranges.now g.particles (store g.pf.now g.pw.now) c.args.nf c.args.nw (limits g.regions g.particles 0) _ done
    (sym c.check_lists.ensures ∙ c.in_ok-check_lists.was)

pub returns : goal.returns
returns c =
    rw (
      in_steps _ _ _ _ _ _ _ _ _ _ _ c.if-order-given.false,
      ← c.is_set.ensures,
      ← c.check_lists.ensures,
      c.in_ok-check_lists.was,
      ← c.check_order.ensures,
      c.in_ok-check_order.was,
    )
    c.check_particles.ensures
