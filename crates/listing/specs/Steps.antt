-- What the functions below the calls answer, a field or a part at a time. Definitions only.
use Rattle.std.specs.Prelude.{◌≡◌, Bool, cond, List, [], ◌++◌, ℕ, ◌+◌, ◌*◌, ◌≤◌, length, get_or, eqb, ltb, None, Option, Some}
use Rattle.std.proofs.Math.Seq.{slice}
use Rattle.std.specs.Float.Ieee.{ne}
use Rattle.numeric.specs.Bits.{none}
use Rattle.laws.specs.Store.{Store}
use Rattle.grid.specs.Nodes.{node_at}
use Rattle.fields.specs.Read.{place_of}
use Rattle.listing.specs.Lines.{tab, field_of, Values}
use Rattle.listing.specs.Bench.{node_text, shown, nodes_text}
use Rattle.listing.specs.declared.page.Place.{Place}

-- a field's value, and where the field ends
abbrev pub ends : Option ℕ → ℕ → Option (ℕ × ℕ)
ends (Some v) e = Some (v, e)
ends None e = None

-- the field behind the tab at a place
unfoldable pub step_of : ℕ → ℕ → List ℕ → Option (ℕ × ℕ)
step_of kind at text =
    let e = place_of tab (at + 1) text in
    cond (ltb at (length text)) (cond (eqb (get_or text at 0) tab) (ends (field_of kind (slice (at + 1) e text)) e) None) None

-- values ahead of others
abbrev pub ahead : List ℕ → Values → Values
ahead vs (Some ws) = Some (vs ++ ws)
ahead vs None = None

-- ---- printing

-- the line of a node takes at most so many bytes; the page has room for one of each node of 64 regions, and for a line more
abbrev pub node_bytes : ℕ
node_bytes = 89

abbrev pub page_bytes : ℕ
page_bytes = 92160

-- what is printed of the node at a place: its line, or nothing
abbrev pub shows : Store → ℕ → Bool
shows s k = ne (node_at s k).mass none

unfoldable pub added_text : List ℕ → Store → ℕ → List ℕ
added_text ids s k = cond (shows s k) (node_text ids s k) []

-- where printing has come to with the nodes below k printed
pub record Printed (ids : List ℕ) (s : Store) (k : ℕ) (p : Place) : Type 0 where
  pub end : p.at ≡ length (nodes_text ids s (shown s k))
  pub counted : p.nodes ≡ length (shown s k)
  pub short : p.at ≤ k * node_bytes
  pub few : p.nodes ≤ k

-- and with the node at k looked at
pub record Grown (ids : List ℕ) (s : Store) (k : ℕ) (p q : Place) : Type 0 where
  pub end : q.at ≡ p.at + length (added_text ids s k)
  pub counted : q.nodes ≡ p.nodes + cond (shows s k) 1 0
  pub short : length (added_text ids s k) ≤ node_bytes
