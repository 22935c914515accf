-- Document 01, "Stages": "a node holds mass, momentum, velocity, two psi numbers and a boundary flag", and how it lies in lent memory. Definitions, and what is proved of them.
-- Assumes nothing.
use Rattle.std.specs.Prelude.{◌≡◌, refl, ◌↔◌, [], ◌∷◌, ℕ, ◌^◌, get_or}
use Rattle.std.specs.Float.{nan}
use Rattle.numeric.specs.Bits.{none}
use Rattle.laws.specs.Store.{Store, Form, Cells, get_record, put_record, Holds, records}
use Rattle.laws.proofs.Rows.{read_all}
use Rattle.grid.specs.declared.grid_node.GridNode.{GridNode}

-- its floats and words, and the nodes of a region: 4 along each axis
abbrev pub floats_per_node : ℕ
floats_per_node = 7

abbrev pub words_per_node : ℕ
words_per_node = 1

abbrev pub region_cells : ℕ
region_cells = 4 ^ 2

abbrev pub node_form : Form GridNode
node_form = record {
  floats = floats_per_node;
  words = words_per_node;
  floats_of = λ n. n.mass ∷ n.momentum.x ∷ n.momentum.y ∷ n.velocity.x ∷ n.velocity.y ∷ n.psi_momentum ∷ n.psi_mass ∷ [];
  words_of = λ n. n.boundary ∷ [];
  make = λ xs ws. record {
    mass = get_or xs 0 nan;
    momentum = record { x = get_or xs 1 nan; y = get_or xs 2 nan };
    velocity = record { x = get_or xs 3 nan; y = get_or xs 4 nan };
    psi_momentum = get_or xs 5 nan;
    psi_mass = get_or xs 6 nan;
    boundary = get_or ws 0 0;
  };
  floats_long = λ n. refl;
  words_long = λ n. refl;
  back = λ n. refl;
  floats_made = λ xs ws p q. read_all nan xs floats_per_node p;
  words_made = λ xs ws p q. read_all 0 ws words_per_node q;
}

-- the node at a place, and the store with a node put there
unfoldable pub node_at : Store → ℕ → GridNode
node_at s k = get_record node_form s k

unfoldable pub put_node : Store → ℕ → GridNode → Store
put_node s k n = put_record node_form s k n

-- the nodes as cells of the store, on which hits are made: what a hit reads, what it writes, and what a store of n nodes is
unfoldable pub nodes : Cells Store GridNode
nodes = records node_form

pub reads : (s : Store) (k : ℕ) → nodes.get s k ≡ node_at s k
unfolding nodes records node_at
reads s k = refl

pub writes : (s : Store) (k : ℕ) (n : GridNode) → nodes.put s k n ≡ put_node s k n
unfolding nodes records put_node
writes s k n = refl

pub stores : (s : Store) (n : ℕ) → Holds node_form s n ↔ nodes.Ok s n
unfolding nodes records
stores s n = (λ h. h, λ h. h)

-- all +0, flag off
abbrev pub empty_node : GridNode
empty_node = record {
  mass = none;
  momentum = record { x = none; y = none };
  velocity = record { x = none; y = none };
  psi_momentum = none;
  psi_mass = none;
  boundary = 0;
}
