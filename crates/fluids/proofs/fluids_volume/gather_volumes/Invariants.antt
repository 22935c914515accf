-- `fluids::fluids_volume::gather_volumes` meets its contract: the particles of the regions before r are recomputed, and the others as they were.
use Rattle.std.proofs.Common.{◌≡◌, ℕ}
use Rattle.laws.specs.Store.{store}
use Rattle.laws.specs.Hits.{run, gather, change_at}
use Rattle.grid.specs.Table.{before}
use Rattle.particles.specs.Particles.{particles}
use Rattle.fluids.specs.Fluids.{recomputed}
use Rattle.fluids.proofs.fluids_volume.gather_volumes.Given as goal

abbrev pub invariant-loop-r : goal.invariant-loop-r
invariant-loop-r l =
    let m = l.masses in
    store l.pf l.pw ≡ run particles (gather (change_at (λ (p : ℕ). recomputed m.cell_width m.ids.now (store m.nf.now m.nw.now))) (before l.ranges l.r)) (store l.initial.pf l.initial.pw)
