-- How nodes are printed, one after the other, as the loop does. Assumes nothing.
use Rattle.std.proofs.Common.{◌≡◌, refl, sym, ap, ◌∙◌, Bool, true, false, cond, List, [], ◌∷◌, ◌++◌, append_assoc, append-nil, ℕ, ◌+◌, ◌^◌, ◌≤◌, ◌<◌, add-one, arith, length, length-append}
use lib.Ieee.{binary32, ne, to_bits}
use Rattle.packing.specs.Ids.{dim2, coordinates}
use Rattle.numeric.specs.Bits.{none}
use Rattle.fields.specs.Write.{put_at, place_after}
use Rattle.fields.proofs.Writing.{fits, put_none, put_more, put_then}
use Rattle.laws.specs.Store.{Store}
use Rattle.grid.specs.Nodes.{node_at}
use Rattle.grid.specs.declared.grid_node.GridNode.{GridNode}
use Rattle.listing.specs.Lines.{decimal, ended_text, Fit}
use Rattle.listing.specs.Bench.{node_head, node_kinds, cell_at, node_values, node_text, keep, shown, nodes_text, listed, ok_text, no_text}
use Rattle.listing.specs.Steps.{node_bytes, page_bytes, shows, added_text, Printed, Grown}
use Rattle.listing.specs.declared.page.Place.{Place}
use Rattle.listing.proofs.Spelling.{widest, fields_short}

-- ---- a line that fits

pub ended_short : (head kinds values : List ℕ) → Fit kinds values → length (ended_text head kinds values) ≤ length head + (widest kinds + 1)
ended_short head kinds values f = rw (length-append, length-append) (omega (arith, fields_short kinds values f))

pub placed : (out : List ℕ) (at : ℕ) (text : List ℕ) → at + length text ≤ length out → place_after out at text ≡ at + length text
placed out at text h = sym (fits out at text (length text) refl h).1

-- ---- the line of a node

pub node_values_lem : (ids : List ℕ) (k : ℕ) (n : GridNode) {id x y : ℕ} → id ≡ cell_at ids k → x ∷ y ∷ [] ≡ coordinates dim2 id → {a b c d e : ℕ}
    → a ≡ to_bits binary32 n.mass → b ≡ to_bits binary32 n.momentum.x → c ≡ to_bits binary32 n.momentum.y → d ≡ to_bits binary32 n.velocity.x → e ≡ to_bits binary32 n.velocity.y
    → x ∷ y ∷ a ∷ b ∷ c ∷ d ∷ e ∷ [] ≡ node_values ids k n
node_values_lem ids k n i u a b c d e = rw (← i, ← u, a, b, c, d, e)

pub node_put : (ids : List ℕ) (k : ℕ) (n : GridNode) (page : List ℕ) (at : ℕ) → at + node_bytes ≤ length page → {values : List ℕ} → values ≡ node_values ids k n → Fit node_kinds values
    → {m : ℕ} {next : List ℕ} → m ≡ place_after page at (ended_text node_head node_kinds values) → next ≡ put_at page at (ended_text node_head node_kinds values)
    → (m ≡ at + length (ended_text node_head node_kinds (node_values ids k n))) × (length (ended_text node_head node_kinds (node_values ids k n)) ≤ node_bytes)
    × (next ≡ put_at page at (ended_text node_head node_kinds (node_values ids k n)))
node_put ids k n page at h {values} v f {m} {next} p q =
    let short = ended_short node_head node_kinds values f in
    rw (← v) (p ∙ placed page at (ended_text node_head node_kinds values) (omega arith), omega arith, q)

-- ---- what is printed of the node at a place

module _ (ids : List ℕ) (s : Store) (k : ℕ) where
  pub added : shows s k ≡ true → added_text ids s k ≡ node_text ids s k
  unfolding added_text
  added e = rw e

  pub passed_over : shows s k ≡ false → added_text ids s k ≡ []
  unfolding added_text
  passed_over e = rw e

  -- as the code goes: the node is read, and its line printed or not
  module _ {n : GridNode} (e : n ≡ node_at s k) where
    pub grown : ne n.mass none ≡ true → (p : Place) (page : List ℕ) {m : ℕ} {next : List ℕ} → m ≡ p.at + length (ended_text node_head node_kinds (node_values ids k n))
        → length (ended_text node_head node_kinds (node_values ids k n)) ≤ node_bytes → next ≡ put_at page p.at (ended_text node_head node_kinds (node_values ids k n))
        → Grown ids s k p (record { at = m; nodes = p.nodes + 1 }) × (next ≡ put_at page p.at (added_text ids s k))
    unfolding node_text
    grown b p page {m} {next} l short d =
        let seen : shows s k ≡ true = rw e at b in
        let text : added_text ids s k ≡ ended_text node_head node_kinds (node_values ids k n) = rw e (added seen) in
        (record { end = rw text l; counted = rw seen; short = rw text short }, rw text d)

    pub stayed : ne n.mass none ≡ false → (p : Place) (page : List ℕ) → p.at ≤ length page → Grown ids s k p p × (page ≡ put_at page p.at (added_text ids s k))
    stayed b p page h =
        let seen : shows s k ≡ false = rw e at b in
        let text = passed_over seen in
        (record { end = rw text (omega arith); counted = rw seen (omega arith); short = rw text (omega arith) }, rw text (sym (put_none page p.at h)))

  nodes_last : (xs : List ℕ) → nodes_text ids s (xs ++ (k ∷ [])) ≡ nodes_text ids s xs ++ node_text ids s k
  unfolding nodes_text
  nodes_last [] = append-nil (node_text ids s k)
  nodes_last (x ∷ xs) = rw (nodes_last xs, append_assoc)

  pub text_more : nodes_text ids s (shown s (k + 1)) ≡ nodes_text ids s (shown s k) ++ added_text ids s k
  unfolding shown added_text
  text_more = rw add-one (go (shows s k))
    where
      go : (t : Bool) → nodes_text ids s (keep t k (shown s k)) ≡ nodes_text ids s (shown s k) ++ cond t (node_text ids s k) []
      go true = nodes_last (shown s k)
      go false = sym (append-nil (nodes_text ids s (shown s k)))

  pub count_more : length (shown s (k + 1)) ≡ length (shown s k) + cond (shows s k) 1 0
  unfolding shown
  count_more = rw add-one (go (shows s k))
    where
      go : (t : Bool) → length (keep t k (shown s k)) ≡ length (shown s k) + cond t 1 0
      go true = length-append (shown s k) (k ∷ [])
      go false = omega arith

  one_or_none : cond (shows s k) 1 0 ≤ 1
  one_or_none = go (shows s k)
    where
      go : (t : Bool) → cond t 1 0 ≤ 1
      go true = omega arith
      go false = omega arith

  pub printed_more : (p q : Place) → Printed ids s k p → Grown ids s k p q → Printed ids s (k + 1) q
  printed_more p q b g =
      record {
        end = g.end ∙ rw (text_more, length-append) (ap (λ (n : ℕ). n + length (added_text ids s k)) b.end);
        counted = g.counted ∙ rw count_more (ap (λ (n : ℕ). n + cond (shows s k) 1 0) b.counted);
        short = omega (arith, g.end, g.short, b.short);
        few = omega (arith, g.counted, b.few, one_or_none);
      }

  pub page_more : (page₀ page : List ℕ) (p : Place) → page ≡ put_at page₀ 0 (nodes_text ids s (shown s k)) → Printed ids s k p → length (nodes_text ids s (shown s (k + 1))) ≤ length page₀
      → {next : List ℕ} → next ≡ put_at page p.at (added_text ids s k) → next ≡ put_at page₀ 0 (nodes_text ids s (shown s (k + 1)))
  page_more page₀ page p e b h d =
      let room : 0 + length (nodes_text ids s (shown s k) ++ added_text ids s k) ≤ length page₀ = omega (arith, rw text_more at h) in
      let here : p.at ≡ 0 + length (nodes_text ids s (shown s k)) = omega (arith, b.end) in
      d ∙ rw (e, here, text_more) (put_more page₀ 0 (nodes_text ids s (shown s k)) (added_text ids s k) room)

-- ---- all of them, and their count

pub printed_none : (ids : List ℕ) (s : Store) → Printed ids s 0 (record { at = 0; nodes = 0 })
unfolding shown nodes_text
printed_none ids s = record { end = refl; counted = refl; short = omega arith; few = omega arith }

pub page_none : (ids : List ℕ) (s : Store) (page : List ℕ) → page ≡ put_at page 0 (nodes_text ids s (shown s 0))
unfolding shown nodes_text
page_none ids s page = sym (put_none page 0 (omega arith))

ok_short : (c : ℕ) → c < 2 ^ 64 → length (ok_text c) ≤ 24
unfolding ok_text
ok_short c h = omega (arith, ended_short (111 ∷ 107 ∷ []) (decimal ∷ []) (c ∷ []) (h, tt))

pub no_short : (number index : ℕ) → number < 2 ^ 64 → index < 2 ^ 64 → length (no_text number index) ≤ 45
unfolding no_text
no_short number index h l = omega (arith, ended_short (110 ∷ 111 ∷ []) (decimal ∷ decimal ∷ []) (number ∷ index ∷ []) (h, (l, tt)))

pub listed_put : (ids : List ℕ) (s : Store) (n : ℕ) (page₀ page : List ℕ) (p : Place) → length page₀ ≡ page_bytes → n ≤ 1024 → Printed ids s n p → page ≡ put_at page₀ 0 (nodes_text ids s (shown s n))
    → {m : ℕ} {next : List ℕ} → m ≡ place_after page p.at (ok_text p.nodes) → next ≡ put_at page p.at (ok_text p.nodes)
    → (m ≡ length (listed ids n s)) × (next ≡ put_at page₀ 0 (listed ids n s)) × (m ≤ page_bytes)
unfolding listed
listed_put ids s n page₀ page p size few b e {m} {next} q d =
    let fit : p.nodes < 2 ^ 64 = omega (arith, b.few) in
    let short : length (ok_text p.nodes) ≤ 24 = ok_short p.nodes fit in
    let all : 0 + length (nodes_text ids s (shown s n) ++ ok_text p.nodes) ≤ length page₀ = rw length-append (omega (arith, b.end, b.short)) in
    let r = put_then page₀ 0 (nodes_text ids s (shown s n)) (ok_text p.nodes) all e (omega (arith, b.end)) d q in
    rw (← b.counted) (omega (arith, r.1), r.0, omega (arith, r.1))
