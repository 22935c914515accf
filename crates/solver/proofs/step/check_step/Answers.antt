-- `solver::step::check_step` meets its contract: what is found of the call, then of its records.
use Rattle.std.proofs.Common.{sym, ap, ◌∙◌, arith, rules}
use Rattle.numeric.specs.Axes.{axes}
use Rattle.laws.specs.Store.{store}
use Rattle.grid.specs.Answers.{refused}
use Rattle.grid.proofs.Steps.{passed}
use Rattle.solver.proofs.Stepping.{check_is, fitted}
use Rattle.solver.proofs.step.check_step.Goals as goal

pub returns-in_err-check_call : goal.returns-in_err-check_call
returns-in_err-check_call c =
    rw (
      check_is,
      ← c.holds_nodes.ensures,
      ← c.holds_projections.ensures,
      ← c.fits-2.ensures,
      ← c.holds_particles.ensures,
      ← c.fits.ensures,
      ← c.check_limits.ensures,
      ← c.is_set.ensures,
      ← c.check_own.ensures,
      ← c.check_call.ensures,
      c.in_err-check_call.was,
    )
    (search rules)

pub check_records-requires : goal.check_records-requires
check_records-requires c =
    let g = c.args.given in
    let u = c.args.updating in
    let f = fitted g.cell_width g.dt (axes g.gravity) u.boundary_handling u.simulation_dofs g.regions g.ids.now g.ranges.now g.particles (store g.pf.now g.pw.now) u.colliders u.cf.now (store u.jf.now u.jw.now) c.args.nf c.args.nw
    (rw (c.fits.ensures, c.holds_particles.ensures, c.fits-2.ensures, c.holds_projections.ensures, c.holds_nodes.ensures) at
    (passed _ _ _ _ (ap refused (sym c.check_call.ensures ∙ c.in_ok-check_call.was))).lengths) in
    (omega (arith, f.0, f.1), omega (arith, f.2), omega (arith, f.3))

pub returns : goal.returns
returns c =
    rw (
      check_is,
      ← c.holds_nodes.ensures,
      ← c.holds_projections.ensures,
      ← c.fits-2.ensures,
      ← c.holds_particles.ensures,
      ← c.fits.ensures,
      ← c.check_limits.ensures,
      ← c.is_set.ensures,
      ← c.check_own.ensures,
      ← c.check_call.ensures,
      c.in_ok-check_call.was,
    )
    c.check_records.ensures
