-- A text that the reader is fed, whole or in pieces, is answered as document 01 says of the whole text. Assumes nothing.
use Rattle.std.proofs.lemmas.Bool.{lt-leb, eqb-false}
use Rattle.std.proofs.Common.{Err, None, Ok, Option, Some, ◌≡◌, refl, sym, ap, ◌∙◌, Bool, true, false, cond, ⊎_elim, List, [], ◌∷◌, ◌++◌, ℕ, suc, ◌+◌, ◌-◌, ◌*◌, ◌^◌, ◌≤◌, ◌<◌, min, mul-one, add-one, arith, length, take, length-append, length-set, take_all, take-suc-set, length-take-le, eqb, eq-eqb, ne_eqb, lt-ltb, le-ltb, le-leb, eqb-true}
use Rattle.std.proofs.Math.Seq.{take-append-le}
use Rattle.laws.specs.Store.{store}
use Rattle.laws.proofs.Rows.{lt_or_ge}
use Rattle.grid.specs.Table.{words_per_range}
use Rattle.particles.specs.Particles.{floats_per_particle, words_per_particle}
use Rattle.listing.specs.Lines.{line_feed, Values, line_of}
use Rattle.listing.specs.Listing.{w, settings_kinds, r, region_kinds, p, particle_kinds, Listing, empty, is_none, with_settings, line_taken, ended, onward, read_from, read_listing}
use Rattle.listing.specs.Listing as Listed
use Rattle.listing.specs.Bench.{settings_of, ids_of, ranges_of, particle_floats_of, particle_words_of, called, kept_regions, kept_particles, within_limits, no_text, limit_number, unreadable_number, answer_to, answer}
use Rattle.listing.specs.Feeding.{settings_read, region_read, particle_read, Memory, line_bytes, State, first, pushed, spoiled, advanced, settings_taken, region_taken, particle_taken, line_ended, fed_byte, fed, printed, Sized, Laws}
use Rattle.listing.specs.declared.records.Settings.{Settings}
use Rattle.listing.proofs.Spelling.{widest, length_line}
use Rattle.listing.proofs.Keeping.{Kept, region_more, particle_more}

-- ---- any split of the text leaves the same state

split : (s : State) (xs ys : List ℕ) → fed s (xs ++ ys) ≡ fed (fed s xs) ys
unfolding fed
split s [] ys = refl
split s (x ∷ xs) ys = split (fed_byte s x) xs ys

-- ---- what the state says: `line` is what stands of the line with index k already, l what the lines before it say

record Represents (s : State) (k : ℕ) (l : Listing) (line : List ℕ) : Type 0 where
  readable : s.reader.readable ≡ true
  index : s.reader.index ≡ k
  have : s.reader.have ≡ min line_bytes (length line)
  bytes : take s.reader.have s.memory.line ≡ take line_bytes line
  settings : (k ≡ 0 → ⊥) → s.reader.settings ≡ settings_of l.settings
  kept : Kept s.memory s.reader.regions s.reader.particles l.regions l.particles

-- a byte more
byte_more : {s : State} {k : ℕ} {l : Listing} {line : List ℕ} → Represents s k l line → (b : ℕ) → Represents (pushed s b) k l (line ++ (b ∷ []))
unfolding pushed
byte_more {s} {k} {l} {line} h b =
    let e = length-append line (b ∷ []) in
    let m = s.memory in
    let long : length m.line ≡ line_bytes = h.kept.sized.line in
    ⊎_elim
    (λ (u : s.reader.have < line_bytes).
    rw (lt-ltb s.reader.have line_bytes u)
    (record {
      readable = h.readable;
      index = h.index;
      have = omega arith;
      bytes = rw (add-one, take-suc-set m.line s.reader.have b (omega arith), h.bytes, take_all line_bytes line (omega arith), take_all line_bytes (line ++ (b ∷ [])) (omega arith));
      settings = h.settings;
      kept = record {
        sized = record { line = simp length-set long; ids = h.kept.sized.ids; ranges = h.kept.sized.ranges; particles = h.kept.sized.particles };
        regions_told = h.kept.regions_told;
        particles_told = h.kept.particles_told;
        ids = h.kept.ids;
        ranges = h.kept.ranges;
        floats = h.kept.floats;
        words = h.kept.words;
      };
    }))
    (λ (u : line_bytes ≤ s.reader.have).
    rw (le-ltb s.reader.have line_bytes u)
    (record {
      readable = h.readable;
      index = h.index;
      have = omega arith;
      bytes = h.bytes ∙ sym (take-append-le line_bytes line (b ∷ []) (omega arith));
      settings = h.settings;
      kept = h.kept;
    }))
    (lt_or_ge s.reader.have line_bytes)

-- ---- the end of a line

-- the state after it, of what the line is
abbrev After : State → ℕ → Option Listing → State → Type 0
After s k (Some l) t = Represents t (suc k) l []
After s k None t = t ≡ spoiled s

module _ {s : State} {k : ℕ} {l : Listing} {line : List ℕ} (h : Represents s k l line) (fits : k + 1 < 2 ^ 64) where
  -- a line that may come leaves the next line's start
  onto : (v : Settings) (n p : ℕ) (m : Memory) (t : Listing) → v ≡ settings_of t.settings → Kept m n p t.regions t.particles
      → Represents (record { reader = advanced s.reader v n p; memory = m }) (suc k) t []
  onto v n p m t e q =
      record { readable = h.readable; index = rw (h.index, lt-ltb k (2 ^ 64 - 1) (omega arith)) (add-one k); have = refl; bytes = refl; settings = λ ne. e; kept = q }

  settings_ended : (v : Values) → After s k (with_settings v l) (settings_taken (settings_read v) s)
  settings_ended (Some vs) = onto (settings_of vs) s.reader.regions s.reader.particles s.memory _ refl h.kept
  settings_ended None = refl

  particle_ended : (k ≡ 0 → ⊥) → (v : Values) → After s k (Listed.with_particle v l) (particle_taken (particle_read v) s)
  particle_ended ne (Some vs) = onto s.reader.settings s.reader.regions _ _ _ (h.settings ne) (particle_more s.memory s.reader.regions s.reader.particles l.regions l.particles vs h.kept)
  particle_ended ne None = refl

  region_ended : (k ≡ 0 → ⊥) → (v : Values) (other : Option Listing) (t : State) → After s k other t → After s k (Listed.with_region v l other) (region_taken (region_read v) s t)
  region_ended ne (Some vs) other t a = onto s.reader.settings _ _ _ _ (h.settings ne) (region_more s.memory s.reader.regions s.reader.particles l.regions l.particles vs h.kept)
  region_ended ne None other t a = a

-- A line of which not all is kept is too long to be read, and so are the bytes that are kept of it.
too_long : (letter : ℕ) (kinds text : List ℕ) → suc (widest kinds) < length text → line_of letter kinds text ≡ None
too_long letter kinds text h = go (line_of letter kinds text) refl
  where
    go : (v : Values) → line_of letter kinds text ≡ v → line_of letter kinds text ≡ None
    go (Some vs) e = absurd (omega (arith, length_line letter kinds text vs e))
    go None e = e

line_cut : (n letter : ℕ) (kinds line : List ℕ) → suc (widest kinds) < n → line_of letter kinds (take n line) ≡ line_of letter kinds line
line_cut n letter kinds line h =
    ⊎_elim
    (λ (u : n < length line).
    too_long letter kinds (take n line) (rw (length-take-le n line (omega arith)) h) ∙ sym (too_long letter kinds line (omega arith)))
    (λ (u : length line ≤ n). rw (take_all n line u))
    (lt_or_ge n (length line))

-- that no `p` line came yet
none_told : (n : ℕ) (xs : List (List ℕ)) → n ≡ min (length xs) (kept_particles + 1) → eqb n 0 ≡ is_none xs
none_told n [] e = eq-eqb n 0 (omega arith)
none_told n (x ∷ xs) e = ne_eqb n 0 (λ z. omega arith)

line_ended_lem : {s : State} {k : ℕ} {l : Listing} {line : List ℕ} → Represents s k l line → k + 1 < 2 ^ 64 → After s k (line_taken k l line) (line_ended s)
unfolding line_taken line_ended
line_ended_lem {s} {k} {l} {line} h fits =
    rw (
      h.bytes,
      line_cut line_bytes w settings_kinds line (omega arith),
      line_cut line_bytes r region_kinds line (omega arith),
      line_cut line_bytes p particle_kinds line (omega arith),
      none_told s.reader.particles l.particles h.kept.particles_told,
      ap (λ (i : ℕ). eqb i 0) h.index,
    )
    (go (line_of w settings_kinds line) (line_of r region_kinds line) (line_of p particle_kinds line) (eqb k 0) refl (is_none l.particles))
  where
    go : (x y z : Values) (t : Bool) → eqb k 0 ≡ t → (b : Bool)
        → After s k (cond t (with_settings x l) (cond b (Listed.with_region y l (Listed.with_particle z l)) (Listed.with_particle z l)))
        (cond t (settings_taken (settings_read x) s) (cond b (region_taken (region_read y) s (particle_taken (particle_read z) s)) (particle_taken (particle_read z) s)))
    go x y z true e b = settings_ended h fits x
    go x y z false e true = region_ended h fits (eqb-false k 0 e) y _ _ (particle_ended h fits (eqb-false k 0 e) z)
    go x y z false e false = particle_ended h fits (eqb-false k 0 e) z

-- ---- the end of the text

-- more records than are kept are told, and else what was kept is what was read
kept_called : {m : Memory} {n k : ℕ} {rs ps : List (List ℕ)} → Kept m n k rs ps → (v : Settings)
    → cond (within_limits n k)
    (called v n (take n m.ids) (take (n * words_per_range) m.ranges) k (store (take (k * floats_per_particle) m.particles.floats) (take (k * words_per_particle) m.particles.words)))
    (no_text limit_number 0)
    ≡ cond (within_limits (length rs) (length ps))
    (called v (length rs) (ids_of rs) (ranges_of rs) (length ps) (store (particle_floats_of ps) (particle_words_of ps)))
    (no_text limit_number 0)
kept_called {m} {n} {k} {rs} {ps} h v =
    ⊎_elim (λ (u : kept_regions < length rs). rw (lt-leb n kept_regions (omega arith), lt-leb (length rs) kept_regions u))
    (λ (u : length rs ≤ kept_regions).
    let e : n ≡ length rs = omega arith in
    ⊎_elim (λ (q : kept_particles < length ps). rw (e, le-leb (length rs) kept_regions u, lt-leb k kept_particles (omega arith), lt-leb (length ps) kept_particles q))
    (λ (q : length ps ≤ kept_particles).
    let f : k ≡ length ps = omega arith in
    let i : take (length rs) m.ids ≡ ids_of rs = rw (mul-one (length rs)) at (h.ids u) in
    rw (e, f, i, h.ranges u, h.floats q, h.words q))
    (lt_or_ge kept_particles (length ps)))
    (lt_or_ge kept_regions (length rs))

text_ended : {s : State} {k : ℕ} {l : Listing} (line : List ℕ) → Represents s k l line → printed s ≡ answer_to (ended k l line)
unfolding printed answer_to
text_ended {s} {k} {l} [] h = go (eqb k 0) refl
  where
    told : eqb s.reader.have 0 ≡ true
    told = eq-eqb s.reader.have 0 (omega arith)

    go : (t : Bool) → eqb k 0 ≡ t → printed s ≡ answer_to (cond t (Err 0) (Ok l))
    go true e = rw (h.readable, told, ap (λ (i : ℕ). eqb i 0) h.index, e) (ap (no_text unreadable_number) (h.index ∙ eqb-true k 0 e))
    go false e = rw (h.readable, told, ap (λ (i : ℕ). eqb i 0) h.index, e, h.settings (eqb-false k 0 e)) (kept_called h.kept (settings_of l.settings))
text_ended {s} {k} {l} (x ∷ line) h = rw (h.readable, ne_eqb s.reader.have 0 (λ z. omega arith)) (ap (no_text unreadable_number) h.index)

-- ---- the text

-- what cannot be read stays so
spoiled_stays : (s : State) (text : List ℕ) → fed (spoiled s) text ≡ spoiled s
unfolding fed fed_byte
spoiled_stays s [] = refl
spoiled_stays s (b ∷ text) = spoiled_stays s text

spoiled_says : {s : State} {k : ℕ} {l : Listing} {line : List ℕ} → Represents s k l line → printed (spoiled s) ≡ answer_to (Err k)
unfolding printed answer_to
spoiled_says h = ap (no_text unreadable_number) h.index

-- a byte, and then the text behind it
byte_read : (b : ℕ) (text : List ℕ) (s : State) (k : ℕ) (l : Listing) (line : List ℕ) → Represents s k l line → k + length (b ∷ text) < 2 ^ 64
    → ((t : State) (j : ℕ) (m : Listing) (x : List ℕ) → Represents t j m x → j + length text < 2 ^ 64 → printed (fed t text) ≡ answer_to (read_from j m x text))
    → printed (fed s (b ∷ text)) ≡ answer_to (read_from k l line (b ∷ text))
unfolding fed fed_byte read_from
byte_read b text s k l line h fits rest = ap (λ (t : Bool). printed (fed (cond t (cond (eqb b line_feed) (line_ended s) (pushed s b)) s) text)) h.readable ∙ go (eqb b line_feed)
  where
    after : (q : Option Listing) (t : State) → After s k q t → printed (fed t text) ≡ answer_to (onward k q (λ (m : Listing). read_from (suc k) m [] text))
    after (Some m) t a = rest t (suc k) m [] a (omega arith)
    after None t a = rw (a, spoiled_stays s text) (spoiled_says h)

    go : (t : Bool) → printed (fed (cond t (line_ended s) (pushed s b)) text)
        ≡ answer_to (cond t (onward k (line_taken k l line) (λ (m : Listing). read_from (suc k) m [] text)) (read_from k l (line ++ (b ∷ [])) text))
    go true = after (line_taken k l line) (line_ended s) (line_ended_lem h (omega arith))
    go false = rest (pushed s b) k l (line ++ (b ∷ [])) (byte_more h b) (omega arith)

text_read : (text : List ℕ) (s : State) (k : ℕ) (l : Listing) (line : List ℕ) → Represents s k l line → k + length text < 2 ^ 64 → printed (fed s text) ≡ answer_to (read_from k l line text)
unfolding fed read_from
text_read [] s k l line h fits = text_ended line h
text_read (b ∷ text) s k l line h fits = byte_read b text s k l line h fits (text_read text)

-- the state that the reader begins with
nothing_read : {m : Memory} → Sized m → Represents (record { reader = first; memory = m }) 0 empty []
nothing_read z =
    record {
      readable = refl;
      index = refl;
      have = refl;
      bytes = refl;
      settings = λ ne. absurd (ne refl);
      kept = record { sized = z; regions_told = refl; particles_told = refl; ids = λ u. refl; ranges = λ u. refl; floats = λ u. refl; words = λ u. refl };
    }

pub laws : Laws
unfolding answer read_listing
laws = record { split = split; whole_text = λ m text z fits. text_read text _ 0 empty [] (nothing_read z) (omega arith) }
