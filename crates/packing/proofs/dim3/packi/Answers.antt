-- `packing::dim3::packi` meets its contract, by what `pack` says.
use Rattle.std.proofs.Common.{◌∷◌, refl, ap, ◌∙◌, ap₂}
use Rattle.packing.specs.Ids.{dim3, packed_id}
use Rattle.packing.proofs.Signed.{passed}
use Rattle.packing.proofs.dim3.packi.Goals as goal

pub returns : goal.returns
returns c =
    c.pack.ensures
    ∙ ap (packed_id dim3)
    (ap₂ ◌∷◌ (passed c.ranges.x c.cast_unsigned.ensures)
    (ap₂ ◌∷◌ (passed c.ranges.y c.cast_unsigned-2.ensures)
    (ap₂ ◌∷◌ (passed c.ranges.z c.cast_unsigned-3.ensures) refl)))
