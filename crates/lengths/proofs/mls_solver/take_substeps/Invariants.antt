-- `lengths::mls_solver::take_substeps` meets its contract: after `count` substeps the step goes on as the definition does.
use Rattle.std.specs.Prelude.{◌≡◌, drop}
use Rattle.lengths.specs.Lengths.{walk}
use Rattle.lengths.proofs.mls_solver.take_substeps.Given as goal

abbrev pub invariant-loop-count : goal.invariant-loop-count
invariant-loop-count l =
    let goes_on = walk l.stops_after_one l.min_dt l.max_substep_dt in
    goes_on 0 l.total l.dts ≡ goes_on l.count l.remaining (drop l.count l.dts)
