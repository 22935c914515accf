use Rattle.std.proofs.Common.{refl, sym, ◌∙◌, arith, length-take}
use Rattle.fields.proofs.Reading.{place_hit, place_miss, place_end}
use Rattle.fields.proofs.find.Goals as goal

pub loop-place-init : goal.loop-place-init
loop-place-init c = (c.min-stop.ensures, omega arith, rw length-take c.min-stop.ensures, refl)

pub returns-then-s-place : goal.returns-then-s-place
returns-then-s-place c =
    let p = c.args in
    record { value = sym (c.loop-place.invariant.3 ∙ place_hit _ _ p.end _ p.s.now c.loop-place.invariant.2 c.loop-place-test.true c.if-s-place.true); lower_bound = (omega arith, omega arith) }

pub loop-place-preserved : goal.loop-place-preserved
loop-place-preserved c =
    let p = c.args in
    (c.loop-place.invariant.0, omega arith, c.loop-place.invariant.2, c.loop-place.invariant.3 ∙ place_miss _ _ p.end _ p.s.now c.loop-place.invariant.2 c.loop-place-test.true c.if-s-place.false)

pub returns : goal.returns
returns c =
    let p = c.args in
    record { value = sym (c.loop-place.invariant.3 ∙ place_end _ _ p.end _ p.s.now c.loop-place.invariant.2 c.loop-place-test.false); lower_bound = (omega arith, omega arith) }
