-- What is gathered by the places of a region's block, column by column, is what is gathered over the stencil. Assumes nothing.
use Rattle.std.specs.Prelude.{Option, Float}
use Rattle.std.proofs.Common.{◌≡◌, ℕ, zero, suc, ◌+◌, ◌*◌, ◌<◌, ◌≤◌, true, List, [], ◌∷◌, get_or, sym, refl, ap, ◌∙◌, ap₂, arith}
use Rattle.std.proofs.lemmas.Bool.{false≢true}
use Rattle.packing.specs.Ids.{dim2, region, stencil_of}
use Rattle.laws.specs.Store.{Store}
use Rattle.cells.specs.Cells.{cell_associated_to_point}
use Rattle.cells.specs.Stencil.{shift_at, step_at, dir_to_associated_grid_node}
use Rattle.cells.proofs.Steps.{by_steps}
use Rattle.grid.specs.declared.grid_node.GridNode.{GridNode}
use Rattle.particles.specs.Blocks.{found_at, IsBlock, corner_of, place_at}
use Rattle.particles.specs.Particles.{position_of}
use Rattle.particles.specs.Table.{is_at}
use Rattle.particles.specs.declared.particle.Particle.{Particle}
use Rattle.particles.proofs.Blocking as Blocking
use Rattle.gather.specs.Transfer.{nothing}
use Rattle.gather.specs.Gather.{node_found, node_of_cell, over_cells, over_stencil, taken, over_column, over_columns, adding, taken_in}

-- a number that stands for a place is not 0
pub is_some : (k : ℕ) → is_at (found_at k) ≡ true → 0 < k
is_some zero e = absurd (false≢true e)
is_some (suc k) e = omega arith

-- a view of a sum follows it, if it follows each node that is added
module _ {A B : Type 0} (view : A → B) (nodes : Store) (add : List ℕ → GridNode → A → A) (seen : List ℕ → GridNode → B → B) (block : List ℕ) (corner : ℕ) (each : (x y : ℕ) (n : GridNode) (a : A) → view (add (x ∷ y ∷ []) n a) ≡ seen (x ∷ y ∷ []) n (view a)) where
  view_column : (x n : ℕ) (a : A) → view (over_column nodes add block corner x n a) ≡ over_column nodes seen block corner x n (view a)
  unfolding over_column
  view_column x zero a = refl
  view_column x (suc n) a = each _ _ _ _ ∙ ap (seen (x ∷ step_at n ∷ []) _) (view_column x n a)

  pub view_columns : (n : ℕ) (a : A) → view (over_columns nodes add block corner n a) ≡ over_columns nodes seen block corner n (view a)
  unfolding over_columns
  view_columns zero a = refl
  view_columns (suc n) a = view_column (step_at n) 3 _ ∙ ap (over_column nodes seen block corner (step_at n) 3) (view_columns n a)

module _ (h : Float) (ids : List ℕ) (nodes : Store) (r : ℕ) (block : List ℕ) (is : IsBlock ids r block) (q : Particle) (own : region (cell_associated_to_point dim2 h (position_of q)) ≡ r) where
  abbrev stencil : List ℕ
  stencil = stencil_of dim2 (cell_associated_to_point dim2 h (position_of q))

  module _ {A : Type 0} (add : List ℕ → GridNode → A → A) (start : A) where
    -- one node
    one : (i j : ℕ) → i < 3 → j < 3 → (a : A)
        → add (step_at i ∷ step_at j ∷ []) (node_found nodes (place_at block (corner_of h q) (step_at i) (step_at j))) a ≡ add (shift_at dim2 (i * 3 + j)) (node_of_cell ids nodes (get_or stencil (i * 3 + j) 0)) a
    unfolding node_of_cell
    one i j l u a = ap₂ (λ (shift : List ℕ) (p : Option ℕ). add shift (node_found nodes p) a) (sym (by_steps i j l u)) ((Blocking.laws ids r block is).stencil h q own i j l u)

    -- the first n of a column
    column : (i n : ℕ) → i < 3 → n ≤ 3 → over_column nodes add block (corner_of h q) (step_at i) n (over_cells ids nodes add start stencil (i * 3)) ≡ over_cells ids nodes add start stencil (i * 3 + n)
    unfolding over_column over_cells
    column i zero l u = let e : i * 3 + 0 ≡ i * 3 = omega arith in rw e
    column i (suc n) l u =
        let e : i * 3 + suc n ≡ suc (i * 3 + n) = omega arith in
        rw e (one i n l (omega arith) _ ∙ ap (add (shift_at dim2 (i * 3 + n)) (node_of_cell ids nodes (get_or stencil (i * 3 + n) 0))) (column i n l (omega arith)))

    -- the first n columns
    columns : (n : ℕ) → n ≤ 3 → over_columns nodes add block (corner_of h q) n start ≡ over_cells ids nodes add start stencil (n * 3)
    unfolding over_columns over_cells
    columns zero l = refl
    columns (suc n) l =
        let e : suc n * 3 ≡ n * 3 + 3 = omega arith in
        rw e (ap (over_column nodes add block (corner_of h q) (step_at n) 3) (columns n (omega arith)) ∙ column n 3 (omega arith) (omega arith))

    -- all of them
    pub over_columns_lem : over_columns nodes add block (corner_of h q) 3 start ≡ over_stencil h ids nodes add start (position_of q)
    over_columns_lem = columns 3 (omega arith)

  -- so a particle takes what it is to take
  pub taken_in_lem : taken_in h block nodes q ≡ taken h ids nodes (position_of q)
  unfolding taken_in taken
  taken_in_lem = let dir = dir_to_associated_grid_node h (position_of q) in over_columns_lem (adding h dir) (nothing dir)
