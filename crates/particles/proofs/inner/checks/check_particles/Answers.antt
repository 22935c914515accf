-- `particles::inner::checks::check_particles` meets its contract: at once, or number by number.
use Rattle.std.proofs.Common.{rules, sym}
use Rattle.grid.proofs.Answers.{unless_end}
use Rattle.particles.specs.Table.{checked}
use Rattle.particles.proofs.inner.checks.check_particles.Goals as goal

pub returns-then-is_accepted : goal.returns-then-is_accepted
returns-then-is_accepted c = sym (c.is_accepted.ensures c.if-is_accepted.true)

pub returns-in_err-first_particle : goal.returns-in_err-first_particle
unfolding checked
returns-in_err-first_particle c = rw (← c.first_particle.ensures, c.in_err-first_particle.was) (search rules)

pub returns-in_err-first_particle-2 : goal.returns-in_err-first_particle-2
unfolding checked
returns-in_err-first_particle-2 c =
    rw (
      ← c.first_particle.ensures,
      c.in_ok-first_particle.was,
      ← c.first_particle-2.ensures,
      c.in_err-first_particle-2.was,
    )
    (search rules)

pub returns : goal.returns
unfolding checked
returns c =
    rw (
      ← c.first_particle.ensures,
      c.in_ok-first_particle.was,
      ← c.first_particle-2.ensures,
      c.in_ok-first_particle-2.was,
      unless_end,
    )
    c.check_places.ensures
