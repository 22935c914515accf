-- Demand 3 of the request: "for 2D lists and particles that the full scatter accepts, scattering regions one by one, each once, colours 0 to 3 in turn, regions inside a
-- colour in any order, leaves from the same starting nodes exactly the bits that demand 2 defines for the full scatter". Definitions, and what is proved of them.
-- Assumes nothing.
use Rattle.grid.specs.Answers.{done}
use Rattle.std.specs.Prelude.{◌≡◌, ◌↔◌, List, [], ◌∷◌, ◌++◌, ℕ, zero, suc, length}
use Rattle.laws.specs.Store.{Store}
use Rattle.laws.specs.Orders.{InTurn}
use Rattle.scatter.specs.Scatter.{colours}
use Rattle.solver.specs.Order.{place_at, colour_at}
use Rattle.solver.specs.Calls.{Call, Scatter, answer, left, after, accepted}
use Rattle.solver.specs.Calls.Call.{scattering, scattering_region, scattering_in_order}

-- the calls of the first n regions of an order
abbrev pub one_by_one : Scatter → List ℕ → ℕ → List Call
one_by_one c order zero = []
one_by_one c order (suc n) = one_by_one c order n ++ (scattering_region (place_at order n) c ∷ [])

-- an order of the list's regions: each once, colours 0 to 3 in turn
pub record Turns (ids order : List ℕ) : Type 0 where
  pub as_long : length order ≡ length ids
  pub in_turn_lem : InTurn (colour_at ids) (place_at order) colours (length ids)

-- ---- what is proved: demand 3

pub record Demand3 : Type 0 where
  -- Where the full scatter is accepted and the regions' calls are made in such an order, with whatever calls between them that are refused, they leave what it leaves.
  pub same_bits : (ids order : List ℕ) (c : Scatter) (calls : List Call) (s : Store)
      → answer ids (scattering c) s ≡ done → Turns ids order → accepted ids calls s ≡ one_by_one c order (length order)
      → after ids calls s ≡ left ids (scattering c) s
  -- None of the regions' own calls is refused.
  pub each_accepted : (ids order : List ℕ) (c : Scatter) (s : Store)
      → answer ids (scattering c) s ≡ done → Turns ids order → accepted ids (one_by_one c order (length order)) s ≡ one_by_one c order (length order)
  -- The one call that makes them all in an order is accepted exactly where the full scatter is and the order is such,
  pub in_one : (ids order : List ℕ) (c : Scatter) (s : Store)
      → (answer ids (scattering_in_order order c) s ≡ done) ↔ ((answer ids (scattering c) s ≡ done) × Turns ids order)
  -- and leaves what it leaves, by its contract; that this is what the regions' calls leave is the first of these.
  pub in_one_left : (ids order : List ℕ) (c : Scatter) (s : Store) → answer ids (scattering_in_order order c) s ≡ done → left ids (scattering_in_order order c) s ≡ left ids (scattering c) s
