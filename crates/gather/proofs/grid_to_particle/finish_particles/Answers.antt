-- `gather::grid_to_particle::finish_particles` meets its contract: the particles below p are changed, and the others as they were.
use Rattle.std.proofs.Common.{◌≡◌, ◌∙◌, arith}
use Rattle.laws.specs.Store.{store}
use Rattle.laws.specs.Hits.{change_at, changes}
use Rattle.laws.proofs.Hits.{run_none, run_more}
use Rattle.particles.specs.Particles.{particles}
use Rattle.gather.specs.Gather.{second_change, second_half}
use Rattle.gather.proofs.Gathering.{one_change}
use Rattle.gather.proofs.grid_to_particle.finish_particles.Goals as goal

pub loop-p-init : goal.loop-p-init
loop-p-init c = run_none particles _ _

pub loop-p-preserved : goal.loop-p-preserved
unfolding second_change
loop-p-preserved c =
    let l = c.loop-p in
    let change = second_change (store c.args.gf.now c.args.gw.now) in
    run_more particles (change_at change) _ _ l.invariant
    (c.write_particle.ensures ∙ rw (c.finish.ensures, c.read_told-told.ensures, c.read_particle-q.ensures) (one_change change l.p _))

pub returns : goal.returns
unfolding second_half changes
returns c = let e : c.loop-p.p ≡ c.args.particles = omega arith in c.loop-p.invariant ∙ rw e
