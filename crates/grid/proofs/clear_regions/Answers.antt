-- `grid::clear_regions` meets its contract: the nodes of the regions before r are empty.
use Rattle.std.proofs.Common.{arith, ◌≡◌, ◌∙◌}
use Rattle.laws.proofs.Hits.{run_none, run_more}
use Rattle.grid.specs.Nodes.{nodes}
use Rattle.grid.specs.Clear.{cleared_region, cleared}
use Rattle.grid.proofs.clear_regions.Invariants.{hits}
use Rattle.grid.proofs.clear_regions.Goals as goal

pub loop-r-init : goal.loop-r-init
loop-r-init c = run_none nodes hits _

pub loop-r-preserved : goal.loop-r-preserved
unfolding cleared_region
loop-r-preserved c = run_more nodes hits _ _ c.loop-r.invariant c.clear_region.ensures

pub returns : goal.returns
unfolding cleared
returns c = let e : c.loop-r.r ≡ c.args.regions = omega arith in c.loop-r.invariant ∙ rw e
