-- Each axis is summed.
use Rattle.std.proofs.Common.{sym, ◌∙◌, ap₂}
use Rattle.std.specs.Int.Bits.{bit_or, or_zero_r}
use Rattle.packing.specs.Mask.{axis_sum, bits, coords, packed, sums, sum_of}
use Rattle.packing.specs.Ids.{dim3, sum}
use Rattle.packing.proofs.Linear.{or_assoc}
use Rattle.packing.proofs.dim3.SolidSpace277.packed_add.Goals as goal

pub returns : goal.returns
unfolding axis_sum sum sum_of coords packed sums dim3 bits
returns c =
    or_assoc c.masked_add.result c.masked_add-2.result c.masked_add-3.result
    ∙ ap₂ bit_or c.masked_add.ensures
    (ap₂ bit_or c.masked_add-2.ensures
    (c.masked_add-3.ensures ∙ sym (or_zero_r _)))
