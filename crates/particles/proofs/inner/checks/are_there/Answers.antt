-- `particles::inner::checks::are_there` meets its contract: the node at x and y of the stencil is its (x + 3 * y)-th.
use Rattle.std.proofs.Common.{arith, rules, tests, ◌≡◌, true, ◌+◌, ◌*◌, ◌/◌, ◌%◌}
use Rattle.particles.specs.Table.{is_at}
use Rattle.particles.specs.Blocks.{place_at}
use Rattle.particles.proofs.Ranges.{each_in_range}
use Rattle.particles.proofs.inner.checks.are_there.Goals as goal

pub returns : goal.returns
returns c e x y l u =
    let a = c.args in
    let at : (x + 3 * y) % 3 ≡ x = omega arith in
    let row : (x + 3 * y) / 3 ≡ y = omega arith in
    rw (at, row) at
    (each_in_range (λ k. is_at (place_at a.block.now a.corner (k % 3) (k / 3)) ≡ true) 0 9 c.all.ensures.ran (λ x q k. search (rules, tests)) e (x + 3 * y) (omega arith) (omega arith))
