-- `packing::dim3::pack` meets its contract: each axis is put in its place.
use Rattle.std.proofs.Common.{sym, ◌∙◌, ap₂}
use Rattle.std.specs.Int.Bits.{bit_or, or_zero_r}
use Rattle.packing.specs.Mask.{packed}
use Rattle.packing.specs.Ids.{dim3, packed_id}
use Rattle.packing.proofs.Linear.{or_assoc}
use Rattle.packing.proofs.dim3.pack.Goals as goal

pub returns : goal.returns
unfolding packed_id dim3 packed
returns c =
    or_assoc c.put.result c.put-2.result c.put-3.result
    ∙ ap₂ bit_or c.put.ensures (ap₂ bit_or c.put-2.ensures (c.put-3.ensures ∙ sym (or_zero_r _)))
