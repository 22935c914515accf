-- `gather::grid_to_particle::gather_particles` meets its contract: the particles of the regions before r are changed, and the others as they were.
use Rattle.std.proofs.Common.{◌≡◌, suc, ◌+◌, ◌<◌, length, ◌∙◌, arith}
use Rattle.laws.specs.Hits.{change_at, changes}
use Rattle.laws.proofs.Hits.{run_none, run_from}
use Rattle.grid.specs.Table.{before, count_of}
use Rattle.particles.specs.Particles.{particles}
use Rattle.gather.specs.Gather.{first_half}
use Rattle.gather.proofs.Ranging.{next_region}
use Rattle.gather.proofs.grid_to_particle.gather_particles.Goals as goal

pub loop-r-init : goal.loop-r-init
unfolding before
loop-r-init c = run_none particles _ _

pub gather_range-requires : goal.gather_range-requires
gather_range-requires c =
    let l = c.loop-r in
    rw (c.start_of.ensures, c.count_of.ensures)
    (next_region c.requires _ l.r (omega (arith, c.loop-r-test.true)) l.invariant)

pub loop-r-preserved : goal.loop-r-preserved
unfolding before
loop-r-preserved c =
    let l = c.loop-r in
    let g = c.args in
    let e : l.r + 1 ≡ suc l.r = omega arith in
    let u : l.r < length g.half.ids.now = omega (arith, c.loop-r-test.true) in
    let start : c.start_of.result ≡ before g.ranges.now l.r = c.start_of.ensures ∙ c.requires.accepted.covers.begins l.r u in
    rw e (run_from particles (change_at _) (before g.ranges.now l.r) (count_of g.ranges.now l.r) _ l.invariant (rw (start, c.count_of.ensures) at c.gather_range.ensures))

pub returns : goal.returns
unfolding first_half changes
returns c = let e : c.loop-r.r ≡ length c.args.half.ids.now = omega arith in c.loop-r.invariant ∙ rw e
