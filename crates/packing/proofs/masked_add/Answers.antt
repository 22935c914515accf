-- `packing::masked_add` meets its contract, by the law of masked sums at 64 digits.
use Rattle.std.proofs.Common.{ℕ, ap, ◌∙◌}
use Rattle.std.specs.Int.Bits.{bit_and}
use Rattle.packing.specs.Mask.{axis_sum}
use Rattle.packing.proofs.Sum.{masked_at}
use Rattle.packing.proofs.masked_add.Goals as goal

pub returns : goal.returns
unfolding axis_sum
returns c =
    let a = c.args in
    ap (λ (x : ℕ). bit_and x a.mask) c.wrapping_add_u64.ensures.value
    ∙ masked_at 64 a.mask a.i a.j c.ranges.mask.fits
