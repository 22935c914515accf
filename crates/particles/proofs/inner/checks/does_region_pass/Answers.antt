-- `particles::inner::checks::does_region_pass` meets its contract: particles that stand in the region and whose stencils have their nodes pass.
use Rattle.std.proofs.Common.{true≢false, sym, ◌∙◌}
use Rattle.particles.proofs.Passing.{own, reached, all_reached, passes}
use Rattle.particles.proofs.inner.checks.does_region_pass.Goals as goal

pub returns-then-pack-region_id : goal.returns-then-pack-region_id
returns-then-pack-region_id c e = absurd (true≢false (sym e))

pub returns-then-not-do_particles_stand : goal.returns-then-not-do_particles_stand
returns-then-not-do_particles_stand c e = absurd (true≢false (sym e))

pub returns-then-is_surrounded : goal.returns-then-is_surrounded
returns-then-is_surrounded c e k l u =
    let h = c.args.part.sample.h in
    let ids = c.args.part.sample.ids.now in
    let r = c.args.region_id in
    let packed = sym c.pack.ensures ∙ c.if-pack-region_id.false in
    let stands = c.do_particles_stand.ensures c.if-not-do_particles_stand.false k l u in
    passes h ids _ _ r _ packed c.requires stands (all_reached h ids r _ c.requires (sym c.is_surrounded.ensures ∙ c.if-is_surrounded.true) (own h _ _ r _ packed c.requires stands))

pub do_stencils_stand-requires : goal.do_stencils_stand-requires
do_stencils_stand-requires c =
    (c.block_of-block.type_inv.1.0.1, λ k l u. (c.do_particles_stand.ensures c.if-not-do_particles_stand.false k l u).on_grid_lem)

pub returns : goal.returns
returns c e k l u =
    let h = c.args.part.sample.h in
    let ids = c.args.part.sample.ids.now in
    let r = c.args.region_id in
    let packed = sym c.pack.ensures ∙ c.if-pack-region_id.false in
    let stands = c.do_particles_stand.ensures c.if-not-do_particles_stand.false k l u in
    passes h ids _ _ r _ packed c.requires stands (reached h ids r c.block_of-block.result _ c.block_of-block.ensures (own h _ _ r _ packed c.requires stands) (c.do_stencils_stand.ensures e k l u))
