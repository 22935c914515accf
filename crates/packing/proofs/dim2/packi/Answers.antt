-- `packing::dim2::packi` meets its contract, by what `pack` says.
use Rattle.std.proofs.Common.{◌∷◌, refl, ap, ◌∙◌, ap₂}
use Rattle.packing.specs.Ids.{dim2, packed_id}
use Rattle.packing.proofs.Signed.{passed}
use Rattle.packing.proofs.dim2.packi.Goals as goal

pub returns : goal.returns
returns c =
    c.pack.ensures
    ∙ ap (packed_id dim2)
    (ap₂ ◌∷◌ (passed c.ranges.x c.cast_unsigned.ensures)
    (ap₂ ◌∷◌ (passed c.ranges.y c.cast_unsigned-2.ensures) refl))
