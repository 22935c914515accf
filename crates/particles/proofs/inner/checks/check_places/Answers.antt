-- `particles::inner::checks::check_places` meets its contract, number by number.
use Rattle.std.proofs.Common.{rules, sym, ap, ◌∙◌}
use Rattle.grid.specs.Answers.{refused}
use Rattle.grid.proofs.Answers.{unless_end}
use Rattle.grid.proofs.Passing.{covers}
use Rattle.particles.specs.Table.{placed}
use Rattle.particles.proofs.inner.checks.check_places.Goals as goal

pub returns-in_err-check_regions : goal.returns-in_err-check_regions
unfolding placed
returns-in_err-check_regions c = rw (← c.check_regions.ensures, c.in_err-check_regions.was) (search rules)

pub returns-in_err-check_cover : goal.returns-in_err-check_cover
unfolding placed
returns-in_err-check_cover c =
    rw (
      ← c.check_regions.ensures,
      c.in_ok-check_regions.was,
      ← c.check_cover.ensures,
      c.in_err-check_cover.was,
    )
    (search rules)

pub returns-in_err-first_particle : goal.returns-in_err-first_particle
unfolding placed
returns-in_err-first_particle c =
    rw (
      ← c.check_regions.ensures,
      c.in_ok-check_regions.was,
      ← c.check_cover.ensures,
      c.in_ok-check_cover.was,
      ← c.first_particle.ensures,
      c.in_err-first_particle.was,
    )
    (search rules)

pub check_in_regions-requires : goal.check_in_regions-requires
check_in_regions-requires c = covers _ _ _ (ap refused (sym c.check_cover.ensures ∙ c.in_ok-check_cover.was))

pub returns-in_err-check_in_regions : goal.returns-in_err-check_in_regions
unfolding placed
returns-in_err-check_in_regions c =
    rw (
      ← c.check_regions.ensures,
      c.in_ok-check_regions.was,
      ← c.check_cover.ensures,
      c.in_ok-check_cover.was,
      ← c.first_particle.ensures,
      c.in_ok-first_particle.was,
      ← c.check_in_regions.ensures,
      c.in_err-check_in_regions.was,
    )
    (search rules)

pub returns : goal.returns
unfolding placed
returns c =
    rw (
      ← c.check_regions.ensures,
      c.in_ok-check_regions.was,
      ← c.check_cover.ensures,
      c.in_ok-check_cover.was,
      ← c.first_particle.ensures,
      c.in_ok-first_particle.was,
      ← c.check_in_regions.ensures,
      c.in_ok-check_in_regions.was,
      unless_end,
    )
    c.first_particle-2.ensures
