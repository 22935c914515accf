-- What the line says is, at each turn, the values read so far and then what the fields behind them say.
use Rattle.std.proofs.Common.{◌≡◌, length, take, drop}
use Rattle.listing.specs.Lines.{fields_of, line_of}
use Rattle.listing.specs.Steps.{ahead}
use Rattle.listing.proofs.lines.read_line.Given as goal

abbrev pub invariant-loop-k : goal.invariant-loop-k
invariant-loop-k g l = (length l.values ≡ length l.kinds) × (line_of l.letter l.kinds l.text ≡ ahead (take l.k l.values) (fields_of (drop l.k l.kinds) (drop l.at l.text)))
