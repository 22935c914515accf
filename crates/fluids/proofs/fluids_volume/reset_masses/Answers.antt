-- `fluids::fluids_volume::reset_masses` meets its contract: the first k nodes are without mass, and the others as they were.
use Rattle.std.proofs.Common.{◌≡◌, ℕ, ◌*◌, ◌∙◌, arith}
use Rattle.laws.specs.Hits.{change_at, changes}
use Rattle.laws.proofs.Hits.{run_none, run_more}
use Rattle.grid.specs.Nodes.{nodes, region_cells}
use Rattle.grid.proofs.Changing.{one_hit}
use Rattle.fluids.specs.Fluids.{massless, emptied}
use Rattle.fluids.proofs.fluids_volume.reset_masses.Goals as goal

pub loop-k-init : goal.loop-k-init
loop-k-init c = run_none nodes _ _

pub loop-k-preserved : goal.loop-k-preserved
loop-k-preserved c =
    run_more nodes (change_at (λ (i : ℕ). massless)) _ _ c.loop-k.invariant
    (c.write_node.ensures ∙ rw (c.without_mass.ensures, c.read_node-n.ensures) (one_hit _ massless _))

pub returns : goal.returns
unfolding emptied changes
returns c = let e : c.loop-k.k ≡ c.args.regions * region_cells = omega arith in c.loop-k.invariant ∙ rw e
