-- `solver::step::check_records` meets its contract where the particles break no rule: what is given is then all there is to look at.
use Rattle.std.proofs.Common.{◌≡◌, List, [], ◌∷◌, ℕ, ◌∙◌}
use Rattle.std.specs.Prelude.{Float}
use Rattle.laws.specs.Store.{Store}
use Rattle.grid.specs.Answers.{first, done}
use Rattle.grid.specs.Table.{flags, numbers}
use Rattle.grid.specs.declared.Rule.TheVariants.{Code, NotFinite}
use Rattle.particles.specs.Table.{first_particle, placed, checked}
use Rattle.scatter.proofs.Clearing.{each_done}
use Rattle.update.specs.Update.{collider_floats, projection_floats}
use Rattle.solver.specs.Step.{records_check}
use Rattle.solver.proofs.step.check_records.Goals as goal

given_alone : (h : Float) (ids ranges : List ℕ) (count : ℕ) (particles : Store) (frictions : List Float) (projections : Store) → checked h ids ranges particles count ≡ done
    → first (flags projections.words ∷ numbers collider_floats frictions ∷ numbers projection_floats projections.floats ∷ []) ≡ records_check h ids ranges count particles frictions projections
unfolding records_check checked
given_alone h ids ranges count particles frictions projections e =
    let done = each_done (first_particle Code h ids 0 particles 0 count ∷ first_particle NotFinite h ids 0 particles 0 count ∷ placed h ids ranges particles count ∷ []) e in
    rw (done 0, done 1, done 2)

pub returns-then-is_accepted : goal.returns-then-is_accepted
returns-then-is_accepted c = c.check_given.ensures ∙ given_alone _ _ _ _ _ _ _ (c.is_accepted.ensures c.if-is_accepted.true)
