-- `particles::inner::checks::check_cells` meets its contract: before a place every region is listed.
use Rattle.std.proofs.Common.{◌≡◌, drop}
use Rattle.grid.specs.Table.{all}
use Rattle.particles.specs.Table.{listed}
use Rattle.particles.proofs.inner.checks.check_cells.Given as goal

abbrev pub invariant-loop-cell_id : goal.invariant-loop-cell_id
invariant-loop-cell_id l = all (listed l.ids) l.cell_ids ≡ all (listed l.ids) (drop l.cell_id-index l.cell_ids)
