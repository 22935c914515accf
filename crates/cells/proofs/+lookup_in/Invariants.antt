-- `cells::lookup_in` meets its contract: it goes on in the half that is kept, which has fewer entries. The measure is the number of entries.
-- Assumes nothing.
use Rattle.cells.proofs.+lookup_in.Given as goal

abbrev pub decreases-lookup_in : goal.decreases-lookup_in
decreases-lookup_in l = l.count
