-- `gather::grid_to_particle::gather_range` meets its contract: of the region's particles those before p are changed, and the others as they were.
use Rattle.std.proofs.Common.{◌≡◌, ℕ, ◌+◌, ◌-◌, ◌<◌, ◌∙◌, arith}
use Rattle.laws.specs.Store.{store}
use Rattle.laws.specs.Hits.{change_at}
use Rattle.laws.proofs.Hits.{run_none, run_more}
use Rattle.particles.specs.Particles.{particles}
use Rattle.particles.specs.declared.particle.Particle.{Particle}
use Rattle.gather.specs.Gather.{first_change}
use Rattle.gather.proofs.Columns.{taken_in_lem}
use Rattle.gather.proofs.Gathering.{one_change}
use Rattle.gather.proofs.Ranging.{serves, own, on}
use Rattle.gather.proofs.grid_to_particle.gather_range.Goals as goal

pub loop-p-init : goal.loop-p-init
loop-p-init c = let e : c.args.start - c.args.start ≡ 0 = omega arith in rw e (run_none particles _ _)

-- The particle at p is the k-th of the region, and is read as it stood.
pub take-t-requires : goal.take-t-requires
take-t-requires c =
    let l = c.loop-p in
    let b = c.block_of-block in
    let g = c.args in
    let change : Particle → Particle = first_change g.half.cell_width g.half.ids.now (store g.half.nf.now g.half.nw.now) g.half.dt g.half.modified_eigenerosion in
    let k = l.p - g.start in
    let u : k < g.count = omega (arith, c.loop-p-test.true, l.auto) in
    let e : g.start + k ≡ l.p = omega (arith, l.auto) in
    let q = rw (← e) at c.read_particle-q.ensures in
    (on c.requires change k u l.invariant q, serves c.requires change k u l.invariant q b.result b.ensures b.type_inv.1.0.1)

pub loop-p-preserved : goal.loop-p-preserved
unfolding first_change
loop-p-preserved c =
    let l = c.loop-p in
    let b = c.block_of-block in
    let g = c.args in
    let q = c.read_particle-q in
    let nodes = store g.half.nf.now g.half.nw.now in
    let change : Particle → Particle = first_change g.half.cell_width g.half.ids.now nodes g.half.dt g.half.modified_eigenerosion in
    let k = l.p - g.start in
    let u : k < g.count = omega (arith, c.loop-p-test.true, l.auto) in
    let e : g.start + k ≡ l.p = omega (arith, l.auto) in
    let more : l.p + 1 - g.start ≡ k + 1 = omega (arith, l.auto) in
    let at = rw (← e) at q.ensures in
    rw more
    (run_more particles (λ (j : ℕ). change_at (λ (p : ℕ). change) (g.start + j)) k _ l.invariant
    (c.write_particle.ensures
    ∙ rw (e, c.advance.ensures, c.take-t.ensures, taken_in_lem g.half.cell_width g.half.ids.now nodes g.region_id b.result b.ensures q.result (own c.requires change k u l.invariant at), q.ensures)
    (one_change (λ (p : ℕ). change) l.p _)))

pub returns : goal.returns
returns c = let e : c.loop-p.p - c.args.start ≡ c.args.count = omega (arith, c.loop-p.auto) in c.loop-p.invariant ∙ rw e
