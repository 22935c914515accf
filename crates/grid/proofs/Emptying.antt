-- Emptied nodes are empty, and no other moves. Assumes nothing.
use Rattle.std.proofs.Common.{◌≡◌, sym, ap, ◌∙◌, subst, ⊎_elim, List, ℕ, zero, suc, ◌+◌, ◌*◌, ◌≤◌, ◌<◌, eq-or-lt_of_le, arith}
use Rattle.laws.specs.Store.{Store, Holds, records}
use Rattle.laws.specs.Hits.{Hit, run, gather}
use Rattle.laws.proofs.Records.{get_same, get_other}
use Rattle.laws.proofs.Hits as Hits
use Rattle.grid.specs.Nodes.{node_form, node_at, put_node, nodes, empty_node, region_cells}
use Rattle.grid.specs.Clear.{emptied, cleared, Laws}
use Rattle.grid.specs.declared.grid_node.GridNode.{GridNode}
use Rattle.grid.proofs.Changing.{kept, one_hit}

-- a node that is written empty is emptied
pub one : (k : ℕ) (s : Store) → put_node s k empty_node ≡ run nodes (emptied k) s
one k s = one_hit k (λ n. empty_node) s

-- the j nodes from b on
abbrev from : ℕ → ℕ → List (Hit GridNode)
from b j = gather (λ c. emptied (b + c)) j

from_holds : (b j n : ℕ) (s : Store) → b + j ≤ n → Holds node_form s n → Holds node_form (run nodes (from b j) s) n
unfolding nodes records
from_holds b j n s h o = Hits.run_ok nodes kept (from b j) s n o (Hits.in_gather (λ k. k < n) (λ c. emptied (b + c)) j (λ i l. (omega arith, tt)))

-- one node is empty, and the others stay
there : (s : Store) (n k : ℕ) → Holds node_form s n → k < n → node_at (put_node s k empty_node) k ≡ empty_node
unfolding node_at put_node
there s n k o h = get_same node_form s n k empty_node o h

elsewhere : (s : Store) (n j k : ℕ) → Holds node_form s n → k < n → (k ≡ j → ⊥) → node_at (put_node s k empty_node) j ≡ node_at s j
unfolding node_at put_node
elsewhere s n j k o h ne = get_other node_form s n j k empty_node o h ne

-- the j nodes are empty, and what was empty in front of them stays so
stretch : (b j : ℕ) (s : Store) (n k : ℕ) → Holds node_form s n → b + j ≤ n → k < b + j → (k < b → node_at s k ≡ empty_node) → node_at (run nodes (from b j) s) k ≡ empty_node
unfolding gather run
stretch b zero s n k o h l e = e (omega arith)
stretch b (suc j) s n k o h l e =
    ap (λ (x : Store). node_at x k) (Hits.run_append nodes (from b j) (emptied (b + j)) s ∙ sym (one (b + j) (run nodes (from b j) s)))
    ∙ ⊎_elim
    (λ (q : k ≡ b + j). rw q (there (run nodes (from b j) s) n (b + j) (from_holds b j n s (omega arith) o) (omega arith)))
    (λ (q : k < b + j).
    elsewhere (run nodes (from b j) s) n k (b + j) (from_holds b j n s (omega arith) o) (omega arith) (λ r. omega arith)
    ∙ stretch b j s n k o (omega arith) q e)
    (eq-or-lt_of_le (let z : k ≤ b + j = omega arith in z))

abbrev regions : ℕ → List (Hit GridNode)
regions m = gather (λ r. from (r * region_cells) region_cells) m

regions_hold : (m n : ℕ) (s : Store) → m * region_cells ≤ n → Holds node_form s n → Holds node_form (run nodes (regions m) s) n
unfolding gather run
regions_hold zero n s h o = o
regions_hold (suc m) n s h o =
    subst (λ (x : Store). Holds node_form x n) (sym (Hits.run_append nodes (regions m) (from (m * region_cells) region_cells) s))
    (from_holds (m * region_cells) region_cells n (run nodes (regions m) s) (omega arith) (regions_hold m n s (omega arith) o))

all_empty : (m n : ℕ) (s : Store) (k : ℕ) → Holds node_form s n → m * region_cells ≤ n → k < m * region_cells → node_at (run nodes (regions m) s) k ≡ empty_node
unfolding gather
all_empty zero n s k o h l = absurd (omega arith)
all_empty (suc m) n s k o h l =
    ap (λ (x : Store). node_at x k) (Hits.run_append nodes (regions m) (from (m * region_cells) region_cells) s)
    ∙ stretch (m * region_cells) region_cells (run nodes (regions m) s) n k (regions_hold m n s (omega arith) o) (omega arith) (omega arith)
    (λ q. all_empty m n s k o (omega arith) q)

pub laws : (m : ℕ) (s : Store) (held : Holds node_form s (m * region_cells)) → Laws m s held
unfolding cleared
laws m s o = record {
  each = λ k h. all_empty m (m * region_cells) s k o (omega arith) h;
  holds = regions_hold m (m * region_cells) s (omega arith) o;
}
