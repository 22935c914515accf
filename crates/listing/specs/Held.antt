-- What the memory that a reader is lent holds. Definitions only.
use Rattle.std.specs.Prelude.{List, ℕ, Float}
use Rattle.std.specs.Borrow.{MutBor}
use Rattle.laws.specs.Store.{store}
use Rattle.listing.specs.Feeding.{Memory}
use Rattle.listing.specs.declared.reader.Lent.{Lent}

-- where a function begins
abbrev pub held : Lent → Memory
held m = record { line = m.line.now; ids = m.ids.now; ranges = m.ranges.now; particles = store m.pf.now m.pw.now }

-- and where it ends: one lent list behind the other
abbrev pub left : MutBor (List ℕ) × (MutBor (List ℕ) × (MutBor (List ℕ) × (MutBor (List Float) × (MutBor (List ℕ) × Unit {0})))) → Memory
left (line, (ids, (ranges, (pf, (pw, rest))))) = record { line = line.now; ids = ids.now; ranges = ranges.now; particles = store pf.now pw.now }
