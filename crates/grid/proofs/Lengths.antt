-- A length is a count times a size, told by quotient and remainder; and what slices of such lengths hold. Assumes nothing.
use Rattle.std.proofs.lemmas.Bool.{eqb-false}
use Rattle.std.proofs.Common.{◌≡◌, refl, sym, ap, ◌∙◌, Bool, true, false, ◌&&◌, true≢false, List, ◌∷◌, ℕ, ◌*◌, ◌/◌, ◌%◌, ◌<◌, div-add-mod', mul-div_cancel, add-zero, mul_assoc, eqb, length, Float, eq-eqb, ne_eqb, eqb-true}
use native.Mathlib.Nat.{mul-add-mod_self_right, zero-mod}
use Rattle.laws.specs.Store.{store, Holds}
use Rattle.grid.specs.Nodes.{node_form, floats_per_node, words_per_node, region_cells}
use Rattle.grid.specs.Answers.{refused, unless, done}
use Rattle.grid.specs.Table.{matches, lengths, node_lengths, limits, region_ids}
use Rattle.grid.specs.Clear.{clear_check}
use Rattle.laws.proofs.Refusals.{unless_passed}
use Rattle.grid.proofs.Answers.{lengths_passed}

-- both sides of an `and` that holds
pub and_split : (a b : Bool) → (a && b) ≡ true → (a ≡ true) × (b ≡ true)
and_split true b e = (refl, e)
and_split false b e = absurd (true≢false (sym e))

-- two lengths at the head of a list are looked at by themselves
pub regroup : (a b c : Bool) → (a && (b && c)) ≡ ((a && (b && true)) && c)
regroup true true c = refl
regroup true false c = refl
regroup false b c = refl

-- a product leaves no remainder
pub whole : (count each : ℕ) → count * each % each ≡ 0
whole count each = ap (λ (x : ℕ). x % each) (sym (add-zero (count * each))) ∙ mul-add-mod_self_right count each 0 ∙ zero-mod each

pub quotient : (len count each : ℕ) → 0 < each → len % each ≡ 0 → eqb (len / each) count ≡ eqb len (count * each)
quotient len count each h e = go (eqb (len / each) count) refl
  where
    go : (b : Bool) → eqb (len / each) count ≡ b → b ≡ eqb len (count * each)
    go true q =
        let p : len / each ≡ count = eqb-true (len / each) count q in
        sym (eq-eqb len (count * each) (sym (div-add-mod' len each) ∙ rw (p, e) (add-zero (count * each))))
    go false q = sym (ne_eqb len (count * each) (λ p. eqb-false (len / each) count q (rw p (mul-div_cancel count h))))

-- slices of the lengths of so many regions hold their nodes
pub nodes_held : (regions : ℕ) (nf : List Float) (nw : List ℕ) → matches (node_lengths regions (length nf) (length nw)) ≡ true → Holds node_form (store nf nw) (regions * region_cells)
nodes_held regions nf nw e =
    let p = and_split (eqb (length nf) (regions * (region_cells * floats_per_node))) (eqb (length nw) (regions * (region_cells * words_per_node)) && true) e in
    let q = and_split (eqb (length nw) (regions * (region_cells * words_per_node))) true p.1 in
    record {
      floats_long = eqb-true (length nf) (regions * (region_cells * floats_per_node)) p.0 ∙ sym (mul_assoc regions region_cells floats_per_node);
      words_long = eqb-true (length nw) (regions * (region_cells * words_per_node)) q.0 ∙ sym (mul_assoc regions region_cells words_per_node);
    }

-- what `clear` does not refuse has room for the nodes of its regions
pub clear_held : (regions : ℕ) (ids : List ℕ) (nf : List Float) (nw : List ℕ) → refused (clear_check regions ids (length nf) (length nw)) ≡ false → Holds node_form (store nf nw) (regions * region_cells)
unfolding clear_check
clear_held regions ids nf nw e =
    let ps : List (ℕ × ℕ) = (length ids, regions) ∷ node_lengths regions (length nf) (length nw) in
    let p = lengths_passed ps (unless_passed refused (lengths ps) (unless (limits regions 0 0) (unless (region_ids ids) done)) e).0 in
    nodes_held regions nf nw (and_split (eqb (length ids) regions) (matches (node_lengths regions (length nf) (length nw))) p).1
