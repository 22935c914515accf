-- `particles::inner::checks::is_not_finite` meets its contract.
use Rattle.std.proofs.Common.{rules, tests, ap, ◌∙◌, not}
use Rattle.std.proofs.lemmas.Iterator.{YieldsList-from_slice}
use Rattle.std.proofs.lemmas.Iterator.Search.{all_from_yields_List}
use Rattle.grid.specs.Table.{finite}
use Rattle.particles.specs.Particles.{particle_form}
use Rattle.particles.specs.Table.{not_finite}
use Rattle.particles.proofs.inner.checks.is_not_finite.Goals as goal

pub returns : goal.returns
unfolding not_finite
returns c =
    ap not (all_from_yields_List finite _ _ _ c.all.ensures.ran (YieldsList-from_slice (particle_form.floats_of c.args.q) (c.iter.ensures.rest ∙ c.floats_of.ensures)) (λ x b q k. search (rules, tests)))
