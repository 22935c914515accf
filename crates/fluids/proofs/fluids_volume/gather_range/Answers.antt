-- `fluids::fluids_volume::gather_range` meets its contract: of the region's particles the first k are recomputed, and the others as they were.
use Rattle.std.proofs.Common.{ℕ, ◌+◌, ◌<◌, ◌∙◌, arith}
use Rattle.laws.specs.Store.{store}
use Rattle.laws.specs.Hits.{change_at}
use Rattle.laws.proofs.Hits.{run_none, run_more}
use Rattle.particles.specs.Particles.{particles}
use Rattle.particles.specs.declared.particle.Particle.{Particle}
use Rattle.gather.proofs.Gathering.{one_change}
use Rattle.gather.proofs.Ranging.{serves, own, on}
use Rattle.fluids.specs.Fluids.{recomputed}
use Rattle.fluids.proofs.Recomputing.{recomputed_in_lem}
use Rattle.fluids.proofs.fluids_volume.gather_range.Goals as goal

pub loop-k-init : goal.loop-k-init
loop-k-init c = run_none particles _ _

pub recompute-requires : goal.recompute-requires
recompute-requires c =
    let l = c.loop-k in
    let b = c.block_of-block in
    let m = c.args.masses in
    let change : Particle → Particle = recomputed m.cell_width m.ids.now (store m.nf.now m.nw.now) in
    let u : l.k < c.args.count = omega arith in
    let q = c.read_particle-q.ensures in
    (on c.requires change l.k u l.invariant q, serves c.requires change l.k u l.invariant q b.result b.ensures b.type_inv.1.0.1)

pub loop-k-preserved : goal.loop-k-preserved
loop-k-preserved c =
    let l = c.loop-k in
    let b = c.block_of-block in
    let m = c.args.masses in
    let q = c.read_particle-q in
    let nodes = store m.nf.now m.nw.now in
    let change : Particle → Particle = recomputed m.cell_width m.ids.now nodes in
    let u : l.k < c.args.count = omega arith in
    run_more particles (λ (j : ℕ). change_at (λ (p : ℕ). change) (c.args.start + j)) l.k _ l.invariant
    (c.write_particle.ensures
    ∙ rw (c.recompute.ensures, recomputed_in_lem m.cell_width m.ids.now nodes c.args.region_id b.result b.ensures q.result (own c.requires change l.k u l.invariant q.ensures), q.ensures)
    (one_change (λ (p : ℕ). change) (c.args.start + l.k) _))
