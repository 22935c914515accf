-- `cells::lookup_in` meets its contract: it goes on in the half that is kept, which has fewer entries.
-- Assumes nothing.
use Rattle.std.proofs.Common.{arith}
use Rattle.cells.specs.Lookup.{searched, narrowed, left}
use Rattle.cells.proofs.Lookups.{goes_up, goes_down}
use Rattle.cells.proofs.+lookup_in.Goals as goal

pub returns-then-count-eq0 : goal.returns-then-count-eq0
unfolding searched narrowed left
returns-then-count-eq0 t c = rw c.if-count-eq0.true

pub returns-then-ids-first : goal.returns-then-ids-first
returns-then-ids-first t c =
    let a = c.args in
    rw (goes_up a.ids.now a.id a.first a.count (omega arith) c.if-ids-first.true) c.lookup_in.ensures

pub returns : goal.returns
returns t c =
    let a = c.args in
    rw (goes_down a.ids.now a.id a.first a.count (omega arith) c.if-ids-first.false) c.lookup_in-2.ensures
