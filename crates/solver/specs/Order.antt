-- An order of the regions by their places: each once, colours 0 to 3 in turn. What a scatter in an order is refused for, and the regions' scatters one after the other.
-- Definitions, and what is proved of them.
-- Assumes nothing.
use Rattle.std.specs.Prelude.{◌≡◌, Bool, false, ◌||◌, not, List, [], ◌∷◌, ℕ, zero, suc, ◌<◌, eqb, ltb, Float, length, get_or}
use Rattle.packing.specs.Ids.{dim2, colour}
use Rattle.laws.specs.Store.{Store}
use Rattle.laws.specs.Orders.{InTurn}
use Rattle.grid.specs.Answers.{refuse, first, first_of, Answer, done}
use Rattle.grid.specs.Table.{lengths}
use Rattle.grid.specs.declared.Rule.TheVariants.{Code}
use Rattle.scatter.specs.Scatter.{colours, scattered, region_scattered, place_check, scatter_check}

-- ---- an order of the regions, by their places

abbrev pub place_at : List ℕ → ℕ → ℕ
place_at order i = get_or order i 0

-- the colour of the region at a place
abbrev pub colour_at : List ℕ → ℕ → ℕ
colour_at ids place = colour dim2 (get_or ids place 0)

-- whether the entry at i is one of the first n
unfoldable pub repeated : List ℕ → ℕ → ℕ → Bool
repeated order i zero = false
repeated order i (suc n) = eqb (place_at order n) (place_at order i) || repeated order i n

-- whether its colour comes before that of the entry ahead of it
abbrev pub goes_back : List ℕ → List ℕ → ℕ → Bool
goes_back ids order zero = false
goes_back ids order (suc i) = ltb (colour_at ids (place_at order (suc i))) (colour_at ids (place_at order i))

-- each once, colours in turn: the entry at i breaks this if it is no place, stands there already, or goes back to an earlier colour
unfoldable pub out_of_turn : List ℕ → List ℕ → ℕ → Bool
out_of_turn ids order i = not (ltb (place_at order i) (length ids)) || (repeated order i i || goes_back ids order i)

unfoldable pub turns : List ℕ → List ℕ → Answer
turns ids order = first_of (λ i. refuse (out_of_turn ids order i) Code i) 0 (length order)

-- 1 to 10; the order is the call's own in 4
unfoldable pub order_check : List ℕ → Float → Float → List Float → ℕ → List ℕ → List ℕ → ℕ → Store → ℕ → ℕ → Answer
order_check order h dt gravity regions ids ranges count particles nf nw =
    first (lengths ((length order, regions) ∷ []) ∷ scatter_check (turns ids order) h dt gravity regions ids ranges count particles nf nw ∷ [])

-- ---- the regions one by one

module _ (h dt : Float) (gravity : List Float) (ids ranges : List ℕ) (particles : Store) (order : List ℕ) where
  -- what the first n of the order leave
  unfoldable pub in_order : ℕ → Store → Store
  in_order zero s = s
  in_order (suc n) s = region_scattered h dt gravity ids ranges particles (place_at order n) (in_order n s)

-- ---- what is proved of it

pub record Laws : Type 0 where
  -- What is not refused is an order in which each region stands once and colours come in turn, and every such order is not refused.
  pub turn : (ids order : List ℕ) → length order ≡ length ids → turns ids order ≡ done → InTurn (colour_at ids) (place_at order) colours (length ids)
  pub every_turn : (ids order : List ℕ) → length order ≡ length ids → InTurn (colour_at ids) (place_at order) colours (length ids) → turns ids order ≡ done
  -- In such an order they leave what the full scatter leaves.
  pub same_bits : (order : List ℕ) (h dt : Float) (gravity : List Float) (regions : ℕ) (ids ranges : List ℕ) (count : ℕ) (particles s : Store)
      → scatter_check done h dt gravity regions ids ranges count particles (length s.floats) (length s.words) ≡ done
      → length order ≡ regions → turns ids order ≡ done
      → in_order h dt gravity ids ranges particles order (length order) s ≡ scattered h dt gravity ids ranges particles s
  -- The call of each region is accepted, whatever the nodes hold by then.
  pub each_accepted : (order : List ℕ) (h dt : Float) (gravity : List Float) (regions : ℕ) (ids ranges : List ℕ) (count : ℕ) (particles s t : Store) (i : ℕ)
      → order_check order h dt gravity regions ids ranges count particles (length s.floats) (length s.words) ≡ done
      → length t.floats ≡ length s.floats → length t.words ≡ length s.words → i < length order
      → scatter_check (place_check (place_at order i) regions) h dt gravity regions ids ranges count particles (length t.floats) (length t.words) ≡ done
