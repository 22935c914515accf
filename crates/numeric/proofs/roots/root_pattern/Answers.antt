-- `numeric::roots::root_pattern` meets its contract: the exponent is halved, and the digits are shifted by one place fewer where it is odd.
use Rattle.std.proofs.Common.{ℕ, ◌+◌, ◌*◌, ◌/◌, ◌%◌, ◌^◌, ap, ◌∙◌, arith}
use Rattle.numeric.specs.Root.{units_root}
use Rattle.numeric.proofs.RootLaws.{normal_field, shifted}
use Rattle.numeric.proofs.roots.root_pattern.Goals as goal

pub leading_root-requires : goal.leading_root-requires
leading_root-requires c =
    let b = c.args.b in
    let s = shifted (b % 8388608 + 8388608) (b / 8388608 % 2) (omega arith) (omega arith) (omega arith) in
    rw c.from-digits.ensures (s.1, s.2, omega arith)

pub returns : goal.returns
returns c =
    let b = c.args.b in
    let x = b / 8388608 in
    let s = shifted (b % 8388608 + 8388608) (x % 2) (omega arith) (omega arith) (omega arith) in
    (rw c.from-digits.ensures at c.leading_root.ensures.0 ∙ ap units_root (ap (λ (m : ℕ). m * (2 ^ ((x + 1) / 2 + 62) * 2 ^ ((x + 1) / 2 + 62))) s.0 ∙ normal_field (b % 8388608) x c.if-field-eq0.false), c.leading_root.ensures.1)
