use Rattle.listing.proofs.reader.take_particle.Goals as goal

pub returns-in_default : goal.returns-in_default
returns-in_default c = rw c.in_default.is (c.broken.ensures _)
