-- The number that is asked for is, at each turn, n and then the digits that are left.
use Rattle.std.proofs.Common.{◌≡◌, ◌<◌, ◌^◌, drop}
use Rattle.fields.specs.Read.{onward, bounded, number_of}
use Rattle.fields.proofs.value.Given as goal

abbrev pub invariant-loop-b : goal.invariant-loop-b
invariant-loop-b l = (l.n < 2 ^ 64) × (number_of l.base l.s ≡ bounded (onward l.base l.n (drop l.b-index l.s)))
