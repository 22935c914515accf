-- `particles::inner::write` meets its contract: what is left to write ends in what is promised.
use Rattle.std.proofs.Common.{◌≡◌, drop}
use Rattle.laws.specs.Store.{write_from, write}
use Rattle.particles.proofs.inner.write.Given as goal

abbrev pub invariant-loop-k : goal.invariant-loop-k
invariant-loop-k g l = write_from l.xs l.at l.k (drop l.k l.values) ≡ write l.initial.xs l.at l.values
