-- `particles::inner::checks::do_particles_stand` meets its contract: each particle of the range stands.
use Rattle.std.proofs.Common.{rules, tests}
use Rattle.laws.specs.Store.{store}
use Rattle.particles.specs.Particles.{particle_at}
use Rattle.particles.specs.Blocks.{Stands}
use Rattle.particles.proofs.Ranges.{each_in_range}
use Rattle.particles.proofs.inner.checks.do_particles_stand.Goals as goal

pub returns : goal.returns
returns c =
    let p = c.args.part in
    let s = p.sample in
    let corner = c.args.corner in
    each_in_range (λ k. Stands s.h corner.x corner.y (particle_at (store s.pf.now s.pw.now) k)) p.start p.count c.all.ensures.ran (λ x q k. search (rules, tests))
