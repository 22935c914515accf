-- `fluids::fluids_volume::recompute_fluids_volumes` meets its contract: the check, and what follows it.
use Rattle.std.proofs.Common.{◌≡◌, length, sym, ap, ◌∙◌, rules}
use Rattle.grid.specs.Answers.{refused}
use Rattle.grid.specs.Table.{before}
use Rattle.gather.proofs.Ranging.{all_taken}
use Rattle.fluids.proofs.Recomputing.{ready}
use Rattle.fluids.proofs.fluids_volume.recompute_fluids_volumes.Goals as goal

pub recompute_volumes-requires : goal.recompute_volumes-requires
recompute_volumes-requires c = (ready _ _ _ _ _ _ _ _ (ap refused (sym c.check_fluids.ensures ∙ c.in_ok-check_fluids.was))).ready

pub returns : goal.returns
returns c =
    let g = c.args in
    let r = ready _ _ _ _ _ _ g.nf.now g.nw.now (ap refused (sym c.check_fluids.ensures ∙ c.in_ok-check_fluids.was)) in
    let all : before g.ranges.now (length g.ids.now) ≡ g.particles = all_taken r.ready r.held in
    (search rules, c.recompute_volumes.ensures.0 ∙ rw all, c.recompute_volumes.ensures.1 ∙ rw all)
