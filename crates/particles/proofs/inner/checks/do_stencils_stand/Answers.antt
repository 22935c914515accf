-- `particles::inner::checks::do_stencils_stand` meets its contract: the stencil of each particle of the range has its nodes.
use Rattle.std.proofs.Common.{rules, tests}
use Rattle.laws.specs.Store.{store}
use Rattle.particles.specs.Particles.{particle_at}
use Rattle.particles.specs.Blocks.{corner_of, AllThere}
use Rattle.particles.proofs.Ranges.{each_in_range}
use Rattle.particles.proofs.inner.checks.do_stencils_stand.Goals as goal

pub returns : goal.returns
returns c =
    let p = c.args.part in
    let s = p.sample in
    each_in_range (λ k. AllThere c.args.block.now (corner_of s.h (particle_at (store s.pf.now s.pw.now) k))) p.start p.count c.all.ensures.ran (λ x q k. search (rules, tests))
