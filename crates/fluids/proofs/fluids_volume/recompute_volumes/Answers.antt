-- `fluids::fluids_volume::recompute_volumes` meets its contract: its three steps. What is needed is found among what they promise, whatever their order, so that
-- another order is refused for what it leaves and not for where its steps stand.
use Rattle.std.proofs.Common.{◌≡◌, ℕ, List, length, ◌∙◌}
use Rattle.std.specs.Float.Ieee.{Float}
use Rattle.laws.specs.Store.{Store}
use Rattle.scatter.specs.Scatter.{mass_scattered}
use Rattle.fluids.specs.Fluids.{volumes, emptied, particles_after, nodes_after}
use Rattle.fluids.proofs.fluids_volume.recompute_volumes.Goals as goal

-- by the nodes with mass on them
module _ (h : Float) (ids ranges : List ℕ) (count : ℕ) (q s t : Store) where
  from_mass : (r : Store) → r ≡ volumes h ids t count q → t ≡ mass_scattered h ids ranges q s → r ≡ particles_after h ids ranges count q s
  unfolding particles_after
  from_mass r e f = e ∙ rw f

  off_mass : (r : Store) → r ≡ emptied (length ids) t → t ≡ mass_scattered h ids ranges q s → r ≡ nodes_after h ids ranges count q s
  unfolding nodes_after
  off_mass r e f = e ∙ rw f

pub returns : goal.returns
returns c = (search (from_mass), search (off_mass))
