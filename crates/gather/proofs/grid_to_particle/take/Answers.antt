-- `gather::grid_to_particle::take` meets its contract: what a particle has taken follows each node that is added.
use Rattle.std.proofs.Common.{rules, ◌≡◌, ℕ, List, [], ◌∷◌, refl, ap, ◌∙◌}
use Rattle.std.specs.Prelude.{Float}
use Rattle.numeric.specs.Axes.{axes, vector, matrix}
use Rattle.laws.specs.Store.{store}
use Rattle.grid.specs.declared.grid_node.GridNode.{GridNode}
use Rattle.particles.specs.Blocks.{corner_of}
use Rattle.gather.specs.declared.grid_to_particle.Transfer.{Transfer}
use Rattle.gather.specs.Transfer.{Taken, nothing, taken_by, taken_from}
use Rattle.gather.specs.Gather.{over_columns, adding, taken_in}
use Rattle.gather.proofs.Columns.{view_columns}
use Rattle.gather.proofs.grid_to_particle.take.Goals as goal

-- what is taken, as the code keeps it
abbrev transfer_of : Taken → Transfer
transfer_of a = record { velocity = vector a.velocity; velocity_gradient = matrix a.gradient; psi_pos_momentum = a.psi; velocity_gradient_det = a.divergence }

pub returns : goal.returns
unfolding taken_in taken_from
returns c =
    let g = c.args in
    let nodes = store g.half.nf.now g.half.nw.now in
    let at = c.spot_of-at.result in
    let dir = axes at.dir in
    let step : List ℕ → GridNode → Transfer → Transfer = λ shift n t. transfer_of (adding at.cell_width dir shift n (taken_by t)) in
    ap taken_by (c.over_stencil.ensures step (λ a b shift n added. let e : taken_by b ≡ adding at.cell_width dir (shift.x ∷ shift.y ∷ []) n (taken_by a) = search rules in ap transfer_of e))
    ∙ view_columns taken_by nodes step (adding at.cell_width dir) g.block.now at.corner (λ x y n a. refl) 3 c.zero_transfer.result
    ∙ rw (c.zero_transfer.ensures, c.spot_of-at.ensures.width, c.spot_of-at.ensures.start)
    (ap (λ (d : List Float). over_columns nodes (adding g.half.cell_width d) g.block.now (corner_of g.half.cell_width g.q) 3 (nothing d)) c.spot_of-at.ensures.way)
