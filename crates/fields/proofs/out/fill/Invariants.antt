-- With what is left of n spelled before i, the list is, at each turn, the one asked for.
use Rattle.std.proofs.Common.{◌≡◌, ◌++◌, length, drop}
use Rattle.fields.specs.Write.{digits_of}
use Rattle.fields.proofs.out.fill.Given as goal

abbrev pub invariant-loop-i : goal.invariant-loop-i
invariant-loop-i l = (length l.out ≡ length l.initial.out) × (digits_of l.base (length l.initial.out) l.n ≡ digits_of l.base l.i l.rest ++ drop l.i l.out)
