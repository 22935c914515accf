-- `gather::grid_to_particle::grid_to_particle_second_half` meets its contract.
use Rattle.std.proofs.Common.{sym, ap, ◌∙◌}
use Rattle.grid.specs.Answers.{refused}
use Rattle.gather.proofs.Checking.{second_fitted}
use Rattle.gather.proofs.grid_to_particle.grid_to_particle_second_half.Goals as goal

pub finish_particles-requires : goal.finish_particles-requires
finish_particles-requires c =
    let f = second_fitted _ _ _ (ap refused (sym c.check_second_half.ensures ∙ c.in_ok-check_second_half.was)) in
    (f.particles_held, f.floats_long, f.words_long)
