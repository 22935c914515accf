-- `packing::region_of` meets its contract: the mask has the 52 digits from 12 on.
use Rattle.std.proofs.Common.{ℕ, ◌*◌, ◌^◌, ap, ◌∙◌}
use Rattle.std.specs.Int.Bits.{and_high}
use Rattle.std.proofs.Math.Pow.{shr_mod}
use Rattle.packing.specs.Ids.{region}
use Rattle.packing.proofs.region_of.Goals as goal

pub returns : goal.returns
unfolding region
returns c = and_high c.args.cell_id 52 12 ∙ ap (λ (x : ℕ). x * 2 ^ 12) (shr_mod 52 12 c.ranges.cell_id.fits)
