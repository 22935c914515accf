-- `gather::inner::check_records` meets its contract, number by number.
use Rattle.std.proofs.Common.{arith}
use Rattle.std.proofs.lemmas.Grind.{common_steps}
use Rattle.grid.proofs.Answers.{unless_end}
use Rattle.particles.specs.Table.{judged, first_particle}
use Rattle.gather.specs.Gather.{records_check}
use Rattle.gather.proofs.inner.check_records.Goals as goal

pub returns-in_err-first_particle : goal.returns-in_err-first_particle
unfolding records_check first_particle judged
returns-in_err-first_particle c = grind (arith, common_steps)

pub returns-in_err-check_flags : goal.returns-in_err-check_flags
unfolding records_check first_particle judged
returns-in_err-check_flags c = grind (arith, common_steps)

pub returns-in_err-first_particle-2 : goal.returns-in_err-first_particle-2
unfolding records_check first_particle judged
returns-in_err-first_particle-2 c = grind (arith, common_steps)

pub returns : goal.returns
unfolding records_check first_particle judged
returns c = grind (arith, common_steps, unless_end)
