-- `boundary::ids::mk_packi3` meets its contract, by what the function of packing says.
use Rattle.std.proofs.Common.{refl, ap, ap₂, ◌∙◌, ◌∷◌, rules}
use Rattle.packing.specs.Ids.{dim3, packed_id, complement}
use Rattle.boundary.proofs.Crossing.{passed}
use Rattle.boundary.proofs.ids.mk_packi3.Goals as goal

pub returns : goal.returns
returns c =
    c.packi.ensures
    ∙ ap (packed_id dim3)
    (ap₂ ◌∷◌ (ap complement (passed c.ranges.x)) (ap₂ ◌∷◌ (ap complement (passed c.ranges.y)) (ap₂ ◌∷◌ (ap complement (passed c.ranges.z)) refl)))
