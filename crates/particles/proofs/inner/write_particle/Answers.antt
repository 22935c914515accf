-- `particles::inner::write_particle` meets its contract: its floats and its words are written.
use Rattle.std.proofs.Common.{refl}
use Rattle.particles.specs.Particles.{put_particle}
use Rattle.particles.proofs.inner.write_particle.Goals as goal

pub returns : goal.returns
unfolding put_particle
returns c = rw (c.write.ensures, c.write-2.ensures, c.floats_of.ensures, c.words_of.ensures) refl
