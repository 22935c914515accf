-- `grid::inner::check_regions` meets its contract: before a place no region is bad.
use Rattle.std.proofs.Common.{arith, sym, ◌∙◌}
use Rattle.grid.specs.Table.{bad_region, region_ids}
use Rattle.grid.specs.declared.Rule.TheVariants.{RegionIds}
use Rattle.grid.proofs.Answers.{stop_at, go_on, none_left}
use Rattle.grid.proofs.inner.check_regions.Goals as goal

pub returns-then-is_bad_region : goal.returns-then-is_bad_region
unfolding region_ids
returns-then-is_bad_region c =
    sym (c.loop-place.invariant ∙ stop_at (bad_region c.args.ids.now) RegionIds _ _ (omega arith) (sym c.is_bad_region.ensures ∙ c.if-is_bad_region.true))

pub loop-place-preserved : goal.loop-place-preserved
loop-place-preserved c =
    c.loop-place.invariant ∙ go_on (bad_region c.args.ids.now) RegionIds _ _ (omega arith) (sym c.is_bad_region.ensures ∙ c.if-is_bad_region.false)

pub returns : goal.returns
unfolding region_ids
returns c = sym (c.loop-place.invariant ∙ none_left (bad_region _) RegionIds _ _ (omega arith))
