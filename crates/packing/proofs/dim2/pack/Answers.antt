-- `packing::dim2::pack` meets its contract: each axis is put in its place.
use Rattle.std.proofs.Common.{sym, ◌∙◌, ap₂}
use Rattle.std.specs.Int.Bits.{bit_or, or_zero_r}
use Rattle.packing.specs.Mask.{packed}
use Rattle.packing.specs.Ids.{dim2, packed_id}
use Rattle.packing.proofs.dim2.pack.Goals as goal

pub returns : goal.returns
unfolding packed_id dim2 packed
returns c = ap₂ bit_or c.put.ensures (c.put-2.ensures ∙ sym (or_zero_r _))
