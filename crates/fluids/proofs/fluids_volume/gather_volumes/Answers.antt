-- `fluids::fluids_volume::gather_volumes` meets its contract: the particles of the regions before r are recomputed, and the others as they were.
use Rattle.std.proofs.Common.{◌≡◌, ℕ, suc, ◌+◌, length, ◌∙◌, arith}
use Rattle.laws.specs.Store.{store}
use Rattle.laws.specs.Hits.{change_at, changes}
use Rattle.laws.proofs.Hits.{run_none, run_from}
use Rattle.grid.specs.Table.{before, count_of}
use Rattle.particles.specs.Particles.{particles}
use Rattle.particles.specs.declared.particle.Particle.{Particle}
use Rattle.gather.proofs.Ranging.{next_region}
use Rattle.fluids.specs.Fluids.{recomputed, volumes}
use Rattle.fluids.proofs.fluids_volume.gather_volumes.Goals as goal

pub loop-r-init : goal.loop-r-init
unfolding before
loop-r-init c = run_none particles _ _

pub gather_range-requires : goal.gather_range-requires
gather_range-requires c =
    rw (c.start_of.ensures, c.count_of.ensures)
    (next_region c.requires _ c.loop-r.r (omega arith) c.loop-r.invariant)

pub loop-r-preserved : goal.loop-r-preserved
unfolding before
loop-r-preserved c =
    let l = c.loop-r in
    let m = c.args.masses in
    let ranges = c.args.ranges.now in
    let e : l.r + 1 ≡ suc l.r = omega arith in
    let start : c.start_of.result ≡ before ranges l.r = c.start_of.ensures ∙ c.requires.accepted.covers.begins l.r (omega arith) in
    let change : Particle → Particle = recomputed m.cell_width m.ids.now (store m.nf.now m.nw.now) in
    rw e (run_from particles (change_at (λ (p : ℕ). change)) (before ranges l.r) (count_of ranges l.r) _ l.invariant (rw (start, c.count_of.ensures) at c.gather_range.ensures))

pub returns : goal.returns
unfolding volumes changes
returns c = let e : c.loop-r.r ≡ length c.args.masses.ids.now = omega arith in c.loop-r.invariant ∙ rw e
