-- What clears, scatters and prints, of what its calls ensure. Assumes nothing.
use Rattle.std.proofs.Common.{Ok, Err, ◌≡◌, refl, sym, ap, ap₂, ◌∙◌, true, false, true≢false, List, [], ◌∷◌, ℕ, zero, suc, ◌+◌, ◌*◌, ◌^◌, ◌≤◌, ◌<◌, arith, length, take, drop, replicate, Float}
use Rattle.std.proofs.Math.ListN.{length-replicate}
use Rattle.std.proofs.Math.Seq.{take-append_seam}
use Rattle.numeric.specs.Axes.{axes}
use Rattle.numeric.specs.Bits.{none}
use Rattle.laws.specs.Store.{Store, store}
use Rattle.laws.specs.Refusals.{settle}
use Rattle.fields.specs.Write.{put_at}
use Rattle.fields.proofs.Writing.{fits, length_put}
use Rattle.grid.specs.Answers.{refused, number, Answer, done, refusal}
use Rattle.grid.specs.Nodes.{region_cells, floats_per_node, words_per_node}
use Rattle.grid.specs.Table.{words_per_range}
use Rattle.grid.specs.Clear.{clear_check, cleared}
use Rattle.grid.specs.declared.Rule.{Rule}
use Rattle.particles.specs.Particles.{floats_per_particle, words_per_particle}
use Rattle.scatter.specs.Scatter.{scatter_check, scattered}
use Rattle.scatter.proofs.Clearing.{clear_done}
use Rattle.listing.specs.Bench.{listed, no_text, blank, bench_check, bench_nodes, called, within_limits, limit_number, unreadable_number, answer}
use Rattle.listing.specs.Feeding.{Memory, state, first, fed, whole, printed, Sized}
use Rattle.listing.specs.Steps.{page_bytes}
use Rattle.listing.specs.declared.reader.Reader.{Reader}
use Rattle.listing.specs.declared.records.Settings.{Settings}
use Rattle.listing.proofs.Whole.{laws}

-- ---- blank nodes

-- the front of equal entries
take_replicate : {A : Type 0} (n m : ℕ) (a : A) → n ≤ m → take n (replicate m a) ≡ replicate n a
take_replicate zero m a h = refl
take_replicate (suc n) zero a h = absurd (omega arith)
take_replicate {A} (suc n) (suc m) a h = ap (λ (l : List A). a ∷ l) (take_replicate n m a (omega arith))

pub front_blank : (regions m k : ℕ) → regions * (region_cells * floats_per_node) ≤ m → regions * (region_cells * words_per_node) ≤ k
    → store (take (regions * (region_cells * floats_per_node)) (replicate m none)) (take (regions * (region_cells * words_per_node)) (replicate k 0)) ≡ blank regions
front_blank regions m k h l = ap₂ store (take_replicate _ m none h) (take_replicate _ k 0 l)

pub blank_long : (regions : ℕ) (s : Store) → s ≡ blank regions → (length s.floats ≡ regions * (region_cells * floats_per_node)) × (length s.words ≡ regions * (region_cells * words_per_node))
blank_long regions s e = (ap (λ (x : Store). length x.floats) e ∙ length-replicate _ none, ap (λ (x : Store). length x.words) e ∙ length-replicate _ 0)

-- ---- a call

-- what is not refused is done
not_refused : (a : Answer) → refused a ≡ false → a ≡ done
not_refused (Ok u) h = refl
not_refused (Err e) h = absurd (true≢false h)

module _ (w : Settings) (regions : ℕ) (ids ranges : List ℕ) (count : ℕ) (particles : Store) where
  -- a clear of blank nodes and a scatter by their contracts
  pub clear_scatter : (s t u : Store) (a b : Answer) → s ≡ blank regions
      → a ≡ clear_check regions ids (length s.floats) (length s.words) → t ≡ settle (refused a) s (cleared regions s)
      → length t.floats ≡ length s.floats → length t.words ≡ length s.words
      → b ≡ scatter_check done w.cell_width w.dt (axes w.gravity) regions ids ranges count particles (length t.floats) (length t.words)
      → u ≡ settle (refused b) t (scattered w.cell_width w.dt (axes w.gravity) ids ranges particles t)
      → (b ≡ bench_check w regions ids ranges count particles) × (refused b ≡ false → u ≡ bench_nodes w regions ids ranges count particles)
  unfolding bench_check bench_nodes
  clear_scatter s t u a b start asks clears floats words checks scatters =
      let f = blank_long regions s start in
      let is : b ≡ bench_check w regions ids ranges count particles = checks ∙ rw (floats, words, f.0, f.1) in (
        is,
        λ r.
            let d = clear_done w.cell_width w.dt (axes w.gravity) regions ids ranges count particles _ _ (sym is ∙ not_refused b r) in
            let empty : t ≡ cleared regions (blank regions) = clears ∙ rw (asks, f.0, f.1, d, start) in
            scatters ∙ rw (r, empty),
      )

  -- what is printed, refused or not
  pub no_called : (rule : Rule) (index : ℕ) → bench_check w regions ids ranges count particles ≡ refusal rule index → no_text (number rule) index ≡ called w regions ids ranges count particles
  unfolding called
  no_called rule index e = rw e

  pub listed_called : {a : Answer} {t : Store} → length ids ≡ regions → a ≡ bench_check w regions ids ranges count particles → (refused a ≡ false → t ≡ bench_nodes w regions ids ranges count particles) → a ≡ done
      → listed ids (length ids * region_cells) t ≡ called w regions ids ranges count particles
  unfolding called
  listed_called n is nodes d = let e : bench_check w regions ids ranges count particles ≡ done = sym is ∙ d in rw (n, nodes (ap refused d), e)

-- ---- what the reader prints

-- another name for the text that is printed
pub told : (page : List ℕ) {n : ℕ} {next x y : List ℕ} → (n ≡ length x) × (next ≡ put_at page 0 x) × (n ≤ page_bytes) → x ≡ y → (n ≡ length y) × (next ≡ put_at page 0 y) × (n ≤ page_bytes)
told page p e = rw (← e) p

module _ (q : Reader) (line ids ranges : List ℕ) (pf : List Float) (pw : List ℕ) where
  pub unread_printed : whole q ≡ false → no_text unreadable_number q.index ≡ printed (state q line ids ranges pf pw)
  unfolding printed
  unread_printed e = rw e

  pub limit_printed : whole q ≡ true → within_limits q.regions q.particles ≡ false → no_text limit_number 0 ≡ printed (state q line ids ranges pf pw)
  unfolding printed
  limit_printed e l = rw (e, l)

  pub called_printed : whole q ≡ true → within_limits q.regions q.particles ≡ true
      → called q.settings q.regions (take q.regions ids) (take (q.regions * words_per_range) ranges) q.particles (store (take (q.particles * floats_per_particle) pf) (take (q.particles * words_per_particle) pw))
      ≡ printed (state q line ids ranges pf pw)
  unfolding printed
  called_printed e l = rw (e, l)

  -- of a whole text
  pub printed_answer : (start : Reader) (m : Memory) (text : List ℕ) → start ≡ first → Sized m → length text < 2 ^ 64
      → state q line ids ranges pf pw ≡ fed (record { reader = start; memory = m }) text → printed (state q [] ids ranges pf pw) ≡ answer text
  unfolding printed
  printed_answer start m text e z fits f = ap printed f ∙ rw e (laws.whole_text m text z fits)

-- the front of the page is the text that was put there
pub room : (page x : List ℕ) {next : List ℕ} {n : ℕ} → next ≡ put_at page 0 x → length page ≡ page_bytes → n ≤ page_bytes → n ≤ length next
room page x e l h = rw (e, length_put page 0 x, l) h

pub front_put : (page : List ℕ) {next x : List ℕ} {n : ℕ} → n ≡ length x → next ≡ put_at page 0 x → n ≤ length next → take n next ≡ x
front_put page {next} {x} {n} l e h =
    let fit : 0 + length x ≤ length page = omega (arith, rw (e, length_put page 0 x) at h) in
    rw (l, e, ← (fits page 0 x (length x) refl fit).0) (take-append_seam x (drop (0 + length x) page))
