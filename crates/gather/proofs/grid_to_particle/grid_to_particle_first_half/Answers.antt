-- `gather::grid_to_particle::grid_to_particle_first_half` meets its contract.
use Rattle.std.proofs.Common.{sym, ap, ◌∙◌}
use Rattle.grid.specs.Answers.{refused}
use Rattle.gather.proofs.Checking.{first_ready}
use Rattle.gather.proofs.grid_to_particle.grid_to_particle_first_half.Goals as goal

pub gather_particles-requires : goal.gather_particles-requires
gather_particles-requires c = (first_ready _ _ _ _ _ _ _ _ _ _ (ap refused (sym c.check_first_half.ensures ∙ c.in_ok-check_first_half.was))).0

pub returns : goal.returns
returns c =
    let done = c.in_ok-check_first_half.was in
    let asked = c.check_first_half.ensures in
    let g = c.args in
    (sym done ∙ asked, c.gather_particles.ensures ∙ rw (first_ready _ _ _ _ _ _ _ _ g.nf.now g.nw.now (ap refused (sym asked ∙ done))).1)
