-- `particles::inner::checks::first_particle` meets its contract: the rule refuses none before p.
use Rattle.std.proofs.Common.{◌≡◌, List, ℕ, ◌+◌, ◌-◌, Float}
use Rattle.laws.specs.Store.{Store, store}
use Rattle.grid.specs.Answers.{refuse, first_of, Answer}
use Rattle.grid.specs.declared.Rule.{Rule}
use Rattle.particles.specs.Particles.{particle_at}
use Rattle.particles.specs.Table.{judged, first_particle}
use Rattle.particles.proofs.inner.checks.first_particle.Given as goal

-- what the rule answers for the particle at a place
abbrev pub at : Rule → Float → List ℕ → ℕ → Store → ℕ → Answer
at rule h ids r s k = refuse (judged rule h ids r (particle_at s k)) rule k

abbrev pub invariant-loop-p : goal.invariant-loop-p
invariant-loop-p l = first_particle l.rule l.h l.ids l.region (store l.pf l.pw) l.start l.count ≡ first_of (at l.rule l.h l.ids l.region (store l.pf l.pw)) l.p (l.start + l.count - l.p)
