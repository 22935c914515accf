-- Each axis is summed.
use Rattle.std.proofs.Common.{sym, ◌∙◌, ap₂}
use Rattle.std.specs.Int.Bits.{bit_or, or_zero_r}
use Rattle.packing.specs.Mask.{axis_sum, bits, coords, packed, sums, sum_of}
use Rattle.packing.specs.Ids.{dim2, sum}
use Rattle.packing.proofs.dim2.PlaneSpace93.packed_add.Goals as goal

pub returns : goal.returns
unfolding axis_sum sum sum_of coords packed sums dim2 bits
returns c = ap₂ bit_or c.masked_add.ensures
    (c.masked_add-2.ensures ∙ sym (or_zero_r _))
