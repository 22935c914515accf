-- A line as a record, and what the reader makes of it, a case at a time, as the code takes them. Assumes nothing.
use Rattle.std.proofs.Common.{None, Option, Some, ◌≡◌, true, false, List, ℕ, ◌+◌, ◌≤◌, ◌<◌, add-one, length, take, drop, get_or, drop_of_length-le, drop-cons, eq-eqb, ne_eqb}
use Rattle.particles.specs.declared.particle.Particle.{Particle}
use Rattle.listing.specs.Lines.{line_feed, line_of}
use Rattle.listing.specs.Listing.{w, settings_kinds, r, region_kinds, p, particle_kinds}
use Rattle.listing.specs.Feeding.{settings_read, region_read, particle_read, State, pushed, settings_taken, region_taken, particle_taken, line_ended, fed_byte, fed}
use Rattle.listing.specs.declared.records.Region.{Region}
use Rattle.listing.specs.declared.records.Settings.{Settings}

-- ---- the end of a line

abbrev kept : State → List ℕ
kept s = take s.reader.have s.memory.line

module _ (s : State) where
  pub first_line : s.reader.index ≡ 0 → {l : Option Settings} → l ≡ settings_read (line_of w settings_kinds (kept s)) → settings_taken l s ≡ line_ended s
  unfolding line_ended
  first_line e q = rw (q, eq-eqb s.reader.index 0 e)

  pub region_line : (s.reader.index ≡ 0 → ⊥) → s.reader.particles ≡ 0 → {v : Region} → region_read (line_of r region_kinds (kept s)) ≡ Some v → region_taken (Some v) s s ≡ line_ended s
  unfolding line_ended
  region_line e n q = rw (ne_eqb s.reader.index 0 e, eq-eqb s.reader.particles 0 n, q)

  pub other_line : (s.reader.index ≡ 0 → ⊥) → s.reader.particles ≡ 0 → region_read (line_of r region_kinds (kept s)) ≡ None
      → {l : Option Particle} → l ≡ particle_read (line_of p particle_kinds (kept s)) → particle_taken l s ≡ line_ended s
  unfolding line_ended
  other_line e n q f = rw (ne_eqb s.reader.index 0 e, eq-eqb s.reader.particles 0 n, q, f)

  pub particle_line : (s.reader.index ≡ 0 → ⊥) → (s.reader.particles ≡ 0 → ⊥) → {l : Option Particle} → l ≡ particle_read (line_of p particle_kinds (kept s)) → particle_taken l s ≡ line_ended s
  unfolding line_ended
  particle_line e n f = rw (ne_eqb s.reader.index 0 e, ne_eqb s.reader.particles 0 n, f)

-- ---- a byte

module _ (s : State) where
  pub unread_on : (b : ℕ) → s.reader.readable ≡ false → s ≡ fed_byte s b
  unfolding fed_byte
  unread_on b e = rw e

  pub line_fed : (b : ℕ) → s.reader.readable ≡ true → b ≡ line_feed → line_ended s ≡ fed_byte s b
  unfolding fed_byte
  line_fed b e f = rw (e, eq-eqb b line_feed f)

  pub byte_fed : (b : ℕ) → s.reader.readable ≡ true → (b ≡ line_feed → ⊥) → pushed s b ≡ fed_byte s b
  unfolding fed_byte
  byte_fed b e f = rw (e, ne_eqb b line_feed f)

  -- ---- a text

  pub fed_on : (text : List ℕ) (k : ℕ) → k < length text → {t : State} → t ≡ fed_byte s (get_or text k 0) → fed s (drop k text) ≡ fed t (drop (k + 1) text)
  unfolding fed
  fed_on text k h e = rw (e, add-one, drop-cons text k 0 h)

  pub fed_whole : (text : List ℕ) (k : ℕ) → length text ≤ k → fed s (drop k text) ≡ s
  unfolding fed
  fed_whole text k h = rw (drop_of_length-le text h)
