-- `fluids::fluids_volume::gather_range` meets its contract: of the region's particles the first k are recomputed, and the others as they were.
use Rattle.std.proofs.Common.{◌≡◌}
use Rattle.laws.specs.Store.{store}
use Rattle.laws.specs.Hits.{run}
use Rattle.particles.specs.Particles.{particles}
use Rattle.gather.specs.Gather.{changes_from}
use Rattle.fluids.specs.Fluids.{recomputed}
use Rattle.fluids.proofs.fluids_volume.gather_range.Given as goal

abbrev pub invariant-loop-k : goal.invariant-loop-k
invariant-loop-k l = let m = l.masses in store l.pf l.pw ≡ run particles (changes_from (recomputed m.cell_width m.ids.now (store m.nf.now m.nw.now)) l.start l.k) (store l.initial.pf l.initial.pw)
