-- The place that is asked for in the bytes before `end` is, at each turn, the one asked for from there on.
use Rattle.std.proofs.Common.{◌≤◌, ◌-◌, ◌≡◌, min, length, take}
use Rattle.fields.specs.Read.{place_of}
use Rattle.fields.proofs.find.Given as goal

abbrev pub invariant-loop-place : goal.invariant-loop-place
invariant-loop-place l =
    (l.stop ≡ min l.end (length l.s)) × (min l.at l.stop ≤ l.place) × (l.stop ≡ length (take l.end l.s)) × (place_of l.byte l.at (take l.end l.s) ≡ place_of l.byte l.place (take l.end l.s))

abbrev pub decreases-loop-place : goal.decreases-loop-place
decreases-loop-place l = l.stop - l.place
