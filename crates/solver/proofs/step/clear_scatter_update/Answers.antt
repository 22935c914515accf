-- `solver::step::clear_scatter_update` meets its contract: where its own check refuses nothing, none of the three calls does.
use Rattle.std.proofs.Common.{◌≡◌, sym, ap, ◌∙◌, subst, length, arith}
use Rattle.std.proofs.lemmas.Bool.{false≢true}
use Rattle.numeric.specs.Axes.{axes}
use Rattle.laws.specs.Store.{Store, store}
use Rattle.grid.specs.Answers.{refused}
use Rattle.grid.specs.Clear.{clear_check}
use Rattle.particles.proofs.Staging.{still_ready}
use Rattle.solver.specs.Clearing.{EmptyElsewhere}
use Rattle.solver.proofs.Clearing.{clear_done, scatter_ready, step, in_turn_lem}
use Rattle.solver.proofs.step.clear_scatter_update.Goals as goal

pub returns-in_err-clear : goal.returns-in_err-clear
returns-in_err-clear c =
    let g = c.args in
    let e = sym c.check_step.ensures ∙ c.in_ok-check_step.was in
    let done = clear_done g.cell_width g.dt (axes g.gravity) g.boundary_handling g.simulation_dofs g.regions g.ids.now g.ranges.now g.particles (store g.pf.now g.pw.now) g.colliders g.cf.now
    (store g.jf.now g.jw.now) (store g.nf.now g.nw.now) e in
    absurd (false≢true (ap refused (sym (c.clear.ensures.0 ∙ done) ∙ c.in_err-clear.was)))

pub scatter_all-requires : goal.scatter_all-requires
scatter_all-requires c =
    let g = c.args in
    let kept = c.clear.auto in
    let r =
    scatter_ready g.cell_width g.dt (axes g.gravity) g.boundary_handling g.simulation_dofs g.regions g.ids.now g.ranges.now g.particles (store g.pf.now g.pw.now) g.colliders g.cf.now
    (store g.jf.now g.jw.now) (store g.nf.now g.nw.now) (sym c.check_step.ensures ∙ c.in_ok-check_step.was) in
    still_ready _ _ _ _ _ _ r (record { floats_long = omega (arith, r.nodes_held.floats_long, kept); words_long = omega (arith, r.nodes_held.words_long, kept) })

pub returns : goal.returns
returns c =
    let g = c.args in
    let ids = g.ids.now in
    let ranges = g.ranges.now in
    let particles = store g.pf.now g.pw.now in
    let projections = store g.jf.now g.jw.now in
    let s = store g.nf.now g.nw.now in
    let e = sym c.check_step.ensures ∙ c.in_ok-check_step.was in
    let asked : c.clear.result ≡ clear_check g.regions ids (length g.nf.now) (length g.nw.now) = c.clear.ensures.0 in
    let done = asked ∙ clear_done g.cell_width g.dt (axes g.gravity) g.boundary_handling g.simulation_dofs g.regions ids ranges g.particles particles g.colliders g.cf.now projections s e in
    let all = in_turn_lem g.cell_width g.dt (axes g.gravity) g.boundary_handling g.simulation_dofs g.regions ids ranges g.particles particles g.colliders g.cf.now projections s e
    _ _ _ _ _ done c.clear.ensures.1 c.scatter_all.ensures c.grid_update.ensures.0 c.grid_update.ensures.1 in (
      all.0 ∙ sym e,
      all.1 ∙ rw all.0,
      λ f.
          subst (λ (t : Store). EmptyElsewhere g.cell_width ids g.particles particles t) (sym all.1)
          (step g.cell_width g.dt (axes g.gravity) g.boundary_handling g.simulation_dofs g.regions ids ranges g.particles particles g.colliders g.cf.now projections s e),
    )
