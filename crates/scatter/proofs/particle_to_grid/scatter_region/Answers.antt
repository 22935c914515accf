-- `scatter::particle_to_grid::scatter_region` meets its contract: what is hit by its block is what its particles hit.
use Rattle.std.proofs.Common.{◌≡◌, length, get_or, ◌∙◌, arith, rules}
use Rattle.laws.specs.Store.{store}
use Rattle.particles.specs.Blocks.{block_cells}
use Rattle.particles.proofs.Blocking.{laws}
use Rattle.scatter.proofs.Hitting.{among}
use Rattle.scatter.proofs.Nearing.{near_region}
use Rattle.scatter.proofs.particle_to_grid.scatter_region.Goals as goal

pub scatter_particles-requires : goal.scatter_particles-requires
scatter_particles-requires g c =
    let l = c.requires.0 in
    let ready = c.requires.1 in
    let within = ready.accepted.covers.within _ l in
    let start = c.start_of-start.ensures in
    let count = c.count_of-count.ensures in
    let s = c.args.s.now in
    let block = c.block_of-block in
    let long : length block.result ≡ block_cells = search rules in
    let places = among block.result _ _ _ ((laws s.ids.now (get_or s.ids.now c.args.place 0) block.result block.ensures).places long) ready.nodes_held in (
      omega (arith, within, start, count, ready.particles_held.floats_long),
      omega (arith, within, start, count, ready.particles_held.words_long),
      places.0,
      places.1,
      λ k u. ready.accepted.on_grid_lem _ (omega (arith, within, start, count, u)),
    )

pub returns : goal.returns
returns g c =
    let s = c.args.s.now in
    c.scatter_particles.ensures
    ∙ rw (
      c.start_of-start.ensures,
      c.count_of-count.ensures,
      near_region s.cell_width (g.P.Pass.changed_for s.pass s.cell_width) s.ids.now s.ranges.now (store s.pf.now s.pw.now) _ c.args.place c.block_of-block.result c.requires.1 c.requires.0 c.block_of-block.ensures,
    )
