-- `grid::clear_region` meets its contract: c nodes from `first` on are empty.
use Rattle.std.proofs.Common.{arith, ◌≡◌, ◌∙◌}
use Rattle.laws.proofs.Hits.{run_none, run_more}
use Rattle.grid.specs.Nodes.{nodes, region_cells}
use Rattle.grid.specs.Clear.{cleared_region}
use Rattle.grid.proofs.Emptying.{one}
use Rattle.grid.proofs.clear_region.Goals as goal

pub loop-c-init : goal.loop-c-init
loop-c-init c = run_none nodes _ _

pub loop-c-preserved : goal.loop-c-preserved
loop-c-preserved c = run_more nodes _ _ _ c.loop-c.invariant (c.write_node.ensures ∙ rw c.empty.ensures (one _ _))

pub returns : goal.returns
unfolding cleared_region
returns c = let e : c.loop-c.c ≡ region_cells = omega arith in c.loop-c.invariant ∙ rw e
