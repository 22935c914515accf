-- `particles::inner::blocks::block_of` meets its contract: the places below k are there.
use Rattle.std.proofs.Common.{◌≡◌, List, ℕ, ◌+◌, ◌*◌, ◌/◌, ◌%◌, ◌<◌, get_or, None, Option}
use Rattle.particles.specs.Places.{of_region}
use Rattle.particles.specs.Blocks.{block_side, found_at}
use Rattle.particles.proofs.inner.blocks.block_of.Given as goal

-- the place at k, by what is reached
abbrev pub at : List (Option ℕ) → ℕ → Option ℕ
at reach k = of_region (get_or reach (k % block_side / 4 + 2 * (k / block_side / 4)) None) (k % block_side % 4 + 4 * (k / block_side % 4))

abbrev pub Filled : List (Option ℕ) → List ℕ → ℕ → Type 0
Filled reach block k = (j : ℕ) → j < k → found_at (get_or block j 0) ≡ at reach j

abbrev pub invariant-loop-k : goal.invariant-loop-k
invariant-loop-k l = Filled l.reach l.number-items l.k
