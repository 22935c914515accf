-- `particles::inner::blocks::reach_of` meets its contract: the shifts are those of whole regions.
use Rattle.packing.proofs.Laws.{plane}
use Rattle.particles.proofs.inner.blocks.reach_of.Goals as goal

pub returns : goal.returns
returns c =
    rw (
      plane.moves.0,
      plane.moves.1,
      plane.moves.2,
      plane.moves.3,
      ← c.packed_add.ensures,
      ← c.lookup.ensures,
      ← c.packed_add-2.ensures,
      ← c.lookup-2.ensures,
      ← c.packed_add-3.ensures,
      ← c.lookup-3.ensures,
      ← c.packed_add-4.ensures,
      ← c.lookup-4.ensures,
    )
