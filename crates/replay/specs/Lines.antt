-- Lines in a buffer. Assumes nothing.
use Rattle.std.specs.Prelude.{ℕ, ◌+◌, ◌-◌, ◌^◌, ◌≤◌, ◌<◌, ◌≡◌, Option, Some, None, false, List, length, take}
use Rattle.std.proofs.Math.Seq.{slice}
use Rattle.fields.specs.Read.{before, place_of, begins_with}
use Rattle.replay.specs.declared.Place.{Place}

-- nothing is read yet
abbrev pub first : Place
first = record { from = 0; to = 0; next = 0; have = 0; left = 2 ^ 64 - 1 }

-- a line of a buffer: it ends at the first line feed at or after its start, which is within what has been read, and fewer lines are left than were
pub record Held (left : ℕ) (buf : List ℕ) (p : Place) : Type 0 where
  pub ordered : p.from ≤ p.to
  pub ended : p.to ≡ place_of 10 p.from (take p.have buf)
  pub onward : p.next ≡ p.to + 1
  pub before : p.to < p.have
  pub within : p.have ≤ length buf
  pub fewer : p.left < left

abbrev pub Holds : ℕ → List ℕ → Option Place → Type 0
Holds left buf (Some p) = Held left buf p
Holds left buf None = Unit

-- the same, of a line that is no comment: `#` is 35
abbrev pub Question : ℕ → List ℕ → Option Place → Type 0
Question left buf (Some p) = Held left buf p × (begins_with 35 (slice p.from p.to buf) ≡ false)
Question left buf None = Unit

-- the text of such a line: no line feed is in it, and it does not begin with `#`
abbrev pub IsQuestion : List ℕ → Type 0
IsQuestion text = (before 10 text ≡ length text) × (begins_with 35 text ≡ false)
