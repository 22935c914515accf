use Rattle.listing.proofs.reader.take_settings.Goals as goal

pub returns-in-None : goal.returns-in-None
returns-in-None c m = rw c.in-None.is (c.broken.ensures m)
