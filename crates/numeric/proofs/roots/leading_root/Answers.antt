-- `numeric::roots::leading_root` meets its contract: the whole number nearest to the root of n holds the pattern's digits.
use Rattle.std.proofs.Common.{arith}
use Rattle.numeric.proofs.RootLaws.{root_near}
use Rattle.numeric.proofs.roots.leading_root.Goals as goal

pub returns : goal.returns
returns c =
    let near = root_near _ _ _ c.near_root.ensures (omega arith) (omega arith) (omega arith) in
    (near.0, omega (arith, near.1))
