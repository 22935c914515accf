-- The listing's reader: a state that is fed the text in pieces, in a fixed amount of memory, and what it then prints. Definitions, and what is proved of them: that any split of the
-- text leaves the same state, and that the state prints what document 01 says of the whole text.
-- Assumes nothing.
use Rattle.std.specs.Prelude.{◌≡◌, Bool, true, false, cond, ◌&&◌, not, List, [], ◌∷◌, ◌++◌, ℕ, ◌+◌, ◌-◌, ◌*◌, ◌^◌, ◌<◌, length, take, set, eqb, ltb, Float, None, Option, Some}
use Rattle.numeric.specs.Bits.{none}
use Rattle.laws.specs.Store.{Store, store, Holds}
use Rattle.grid.specs.Table.{words_per_range}
use Rattle.particles.specs.Particles.{floats_per_particle, words_per_particle, particle_form, put_particle}
use Rattle.particles.specs.declared.particle.Particle.{Particle}
use Rattle.listing.specs.Lines.{line_feed, Values, line_of}
use Rattle.listing.specs.Listing.{w, settings_kinds, r, region_kinds, p, particle_kinds}
use Rattle.listing.specs.Bench.{settings_of, region_of, particle_of, called, kept_regions, kept_particles, within_limits, no_text, limit_number, unreadable_number, answer}
use Rattle.listing.specs.declared.records.Settings.{Settings}
use Rattle.listing.specs.declared.records.Region.{Region}
use Rattle.listing.specs.declared.reader.Reader.{Reader}

-- ---- a line as a record

abbrev pub settings_read : Values → Option Settings
settings_read (Some vs) = Some (settings_of vs)
settings_read None = None

abbrev pub region_read : Values → Option Region
region_read (Some vs) = Some (region_of vs)
region_read None = None

abbrev pub particle_read : Values → Option Particle
particle_read (Some vs) = Some (particle_of vs)
particle_read None = None

-- ---- the state

-- what the reader keeps in lent memory: of the line that has not ended its first bytes, more of them than any readable line has; ids; starts and counts; particles
pub record Memory : Type 0 where
  pub line : List ℕ
  pub ids : List ℕ
  pub ranges : List ℕ
  pub particles : Store

abbrev pub line_bytes : ℕ
line_bytes = 256

pub record State : Type 0 where
  pub reader : Reader
  pub memory : Memory

abbrev pub state : Reader → List ℕ → List ℕ → List ℕ → List Float → List ℕ → State
state reader line ids ranges pf pw = record { reader = reader; memory = record { line = line; ids = ids; ranges = ranges; particles = store pf pw } }

-- nothing is read yet
abbrev pub first : Reader
first =
    record {
      have = 0;
      index = 0;
      readable = true;
      settings = record { cell_width = none; dt = none; gravity = record { x = none; y = none } };
      regions = 0;
      particles = 0;
    }

-- ---- a byte of a line

unfoldable pub pushed : State → ℕ → State
pushed s b =
    let q = s.reader in
    let m = s.memory in
    cond (ltb q.have line_bytes)
    (record {
      reader = record { have = q.have + 1; index = q.index; readable = q.readable; settings = q.settings; regions = q.regions; particles = q.particles };
      memory = record { line = set m.line q.have b; ids = m.ids; ranges = m.ranges; particles = m.particles };
    })
    s

-- ---- the end of a line

-- that line cannot be read, nor then what comes after it
abbrev pub spoiled : State → State
spoiled s =
    let q = s.reader in
    record {
      reader = record { have = q.have; index = q.index; readable = false; settings = q.settings; regions = q.regions; particles = q.particles };
      memory = s.memory;
    }

-- on to the next line; no text has more lines than an index can tell
abbrev pub index_after : ℕ → ℕ
index_after k = cond (ltb k (2 ^ 64 - 1)) (k + 1) k

abbrev pub advanced : Reader → Settings → ℕ → ℕ → Reader
advanced q settings regions particles =
    record { have = 0; index = index_after q.index; readable = q.readable; settings = settings; regions = regions; particles = particles }

-- one record more, of at most so many; beyond them it is only known that there are more
abbrev pub one_more : ℕ → ℕ → ℕ
one_more kept n = cond (ltb n kept) (n + 1) (kept + 1)

abbrev pub settings_taken : Option Settings → State → State
settings_taken (Some v) s = record { reader = advanced s.reader v s.reader.regions s.reader.particles; memory = s.memory }
settings_taken None s = spoiled s

-- a region in its place
unfoldable pub with_region : Memory → ℕ → Region → Memory
with_region m n v =
    cond (ltb n kept_regions)
    (record {
      line = m.line;
      ids = set m.ids n v.id;
      ranges = set (set m.ranges (n * words_per_range) v.start) (n * words_per_range + 1) v.count;
      particles = m.particles;
    })
    m

abbrev pub region_taken : Option Region → State → State → State
region_taken (Some v) s other =
    let q = s.reader in
    record { reader = advanced q q.settings (one_more kept_regions q.regions) q.particles; memory = with_region s.memory q.regions v }
region_taken None s other = other

-- a particle in its place
unfoldable pub with_particle : Memory → ℕ → Particle → Memory
with_particle m n v =
    cond (ltb n kept_particles) (record { line = m.line; ids = m.ids; ranges = m.ranges; particles = put_particle m.particles n v }) m

abbrev pub particle_taken : Option Particle → State → State
particle_taken (Some v) s =
    let q = s.reader in
    record { reader = advanced q q.settings q.regions (one_more kept_particles q.particles); memory = with_particle s.memory q.particles v }
particle_taken None s = spoiled s

-- the line with index 0 is a `w` line; a later one is an `r` line, if no `p` line came before it, or a `p` line
unfoldable pub line_ended : State → State
line_ended s =
    let q = s.reader in
    let line = take q.have s.memory.line in
    let particle = particle_taken (particle_read (line_of p particle_kinds line)) s in
    cond (eqb q.index 0) (settings_taken (settings_read (line_of w settings_kinds line)) s)
    (cond (eqb q.particles 0) (region_taken (region_read (line_of r region_kinds line)) s particle) particle)

-- ---- a text

unfoldable pub fed_byte : State → ℕ → State
fed_byte s b = cond s.reader.readable (cond (eqb b line_feed) (line_ended s) (pushed s b)) s

unfoldable pub fed : State → List ℕ → State
fed s [] = s
fed s (b ∷ text) = fed (fed_byte s b) text

-- ---- what is printed at its end

-- the last line has ended, and there was one
abbrev pub whole : Reader → Bool
whole q = q.readable && (eqb q.have 0 && not (eqb q.index 0))

unfoldable pub printed : State → List ℕ
printed s =
    let q = s.reader in
    let m = s.memory in
    cond (whole q)
    (cond (within_limits q.regions q.particles)
    (called q.settings q.regions (take q.regions m.ids) (take (q.regions * words_per_range) m.ranges) q.particles
    (store (take (q.particles * floats_per_particle) m.particles.floats) (take (q.particles * words_per_particle) m.particles.words)))
    (no_text limit_number 0))
    (no_text unreadable_number q.index)

-- ---- what is proved

-- memory for 64 regions and 256 particles
pub record Sized (m : Memory) : Type 0 where
  pub line : length m.line ≡ line_bytes
  pub ids : length m.ids ≡ kept_regions
  pub ranges : length m.ranges ≡ kept_regions * words_per_range
  pub particles : Holds particle_form m.particles kept_particles

pub record Laws : Type 0 where
  -- Feeding any split of the text leaves the same state.
  pub split : (s : State) (xs ys : List ℕ) → fed s (xs ++ ys) ≡ fed (fed s xs) ys
  -- Fed a text, the reader prints the answer to it, whatever its memory held. (No text is as long as 2^64 bytes.)
  pub whole_text : (m : Memory) (text : List ℕ) → Sized m → length text < 2 ^ 64 → printed (fed (record { reader = first; memory = m }) text) ≡ answer text
