-- `cells::lookup` meets its contract: the search of the whole list.
use Rattle.cells.specs.Lookup.{lookup}
use Rattle.cells.proofs.lookup.Goals as goal

pub returns : goal.returns
unfolding lookup
returns c = c.lookup_in.ensures
