-- The number that is asked for is, at each turn, n and then the digits that are left.
use Rattle.std.proofs.Common.{◌≡◌, ◌+◌, ◌*◌, ◌<◌, ◌≤◌, ◌^◌, length, get_or, ap, sym, ◌∙◌, refl, arith}
use Rattle.fields.specs.Read.{digit_of, bounded, number_of}
use Rattle.fields.proofs.Reading.{digit_bad, digit_more, digit_over, digits_end}
use Rattle.fields.proofs.value.Goals as goal

pub loop-b-init : goal.loop-b-init
unfolding number_of
loop-b-init c = (omega arith, refl)

pub returns-in_err-d : goal.returns-in_err-d
returns-in_err-d c =
    let inside : c.loop-b.b-index < length c.args.s.now = omega arith in
    let none : c.args.base ≤ digit_of (get_or c.args.s.now c.loop-b.b-index 0) = grind arith in
    c.from_residual.ensures ∙ sym (c.loop-b.invariant.1 ∙ digit_bad _ _ _ _ inside none)

pub returns-in_err-checked_mul : goal.returns-in_err-checked_mul
returns-in_err-checked_mul c =
    let inside : c.loop-b.b-index < length c.args.s.now = omega arith in
    let d = digit_of (get_or c.args.s.now c.loop-b.b-index 0) in
    let digit : d < c.args.base = grind arith in
    let over : 2 ^ 64 ≤ c.loop-b.n * c.args.base + d = grind arith in
    c.from_residual-in_err-checked_mul.ensures ∙ sym (c.loop-b.invariant.1 ∙ digit_over _ _ _ _ inside digit over)

pub returns-in_err-n : goal.returns-in_err-n
returns-in_err-n c =
    let inside : c.loop-b.b-index < length c.args.s.now = omega arith in
    let d = digit_of (get_or c.args.s.now c.loop-b.b-index 0) in
    let digit : d < c.args.base = grind arith in
    let over : 2 ^ 64 ≤ c.loop-b.n * c.args.base + d = grind arith in
    c.from_residual-in_err-n.ensures ∙ sym (c.loop-b.invariant.1 ∙ digit_over _ _ _ _ inside digit over)

pub loop-b-preserved : goal.loop-b-preserved
loop-b-preserved c =
    let inside : c.loop-b.b-index < length c.args.s.now = omega arith in
    let d = digit_of (get_or c.args.s.now c.loop-b.b-index 0) in
    let digit : d < c.args.base = grind arith in
    let more : c.in_ok-n.n ≡ c.loop-b.n * c.args.base + d = grind arith in
    (grind arith, c.loop-b.invariant.1 ∙ rw more (ap bounded (digit_more _ _ _ _ inside digit)))

pub returns : goal.returns
returns c =
    let over : length c.args.s.now ≤ c.loop-b.b-index = omega arith in
    sym (c.loop-b.invariant.1 ∙ digits_end _ _ _ _ over c.loop-b.invariant.0)
