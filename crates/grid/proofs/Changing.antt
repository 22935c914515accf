-- Nodes that are read, changed and written back. Assumes nothing.
use Rattle.std.proofs.Common.{◌≡◌, sym, ap, ◌∙◌, [], ◌∷◌, ℕ, ◌<◌, arith}
use Rattle.laws.specs.Store.{Store, Holds, records, Laws}
use Rattle.laws.specs.Hits.{run, changes}
use Rattle.laws.proofs.Records as Records
use Rattle.laws.proofs.Hits as Hits
use Rattle.grid.specs.Nodes.{node_form, node_at, put_node, nodes, reads, stores}
use Rattle.grid.specs.declared.grid_node.GridNode.{GridNode}

-- they are kept as records of every kind are
pub kept : Laws nodes
unfolding nodes
kept = Records.laws node_form

-- one is hit
pub one_hit : (k : ℕ) (change : GridNode → GridNode) (s : Store) → put_node s k (change (node_at s k)) ≡ run nodes (record { at = k; change = change } ∷ []) s
unfolding node_at put_node nodes records
one_hit k change s = sym (Hits.run_one nodes (record { at = k; change = change }) s)

module _ (change : ℕ → GridNode → GridNode) (s : Store) (n : ℕ) (held : Holds node_form s n) where
  -- each of n is changed once, from what it held before
  pub each : (k : ℕ) → k < n → node_at (run nodes (changes change n) s) k ≡ change k (node_at s k)
  each k l = sym (reads (run nodes (changes change n) s) k) ∙ (Hits.laws nodes kept).once change s n k ((stores s n).0 held) l ∙ ap (change k) (reads s k)

  pub each_held : Holds node_form (run nodes (changes change n) s) n
  unfolding changes
  each_held = (stores (run nodes (changes change n) s) n).1 (Hits.run_ok nodes kept (changes change n) s n ((stores s n).0 held) (Hits.changes_within nodes kept change n n (omega arith)))
