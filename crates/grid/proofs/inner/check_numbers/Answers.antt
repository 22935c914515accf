-- `grid::inner::check_numbers` meets its contract: before place k every number is finite.
use Rattle.std.proofs.Common.{arith, ◌≡◌, Bool, true, false, not, length, get_or, ◌/◌, sym, ap, ◌∙◌, refl}
use Rattle.std.specs.Float.{nan}
use Rattle.laws.proofs.Refusals.{first_stop, first_go, first_end}
use Rattle.grid.specs.Answers.{done, refusal, refused, refuse}
use Rattle.grid.specs.Table.{finite, numbers}
use Rattle.grid.specs.declared.Rule.TheVariants.{NotFinite}
use Rattle.grid.proofs.inner.check_numbers.Invariants.{judge}
use Rattle.grid.proofs.inner.check_numbers.Goals as goal

pub returns-then-not-is_finite : goal.returns-then-not-is_finite
unfolding numbers
returns-then-not-is_finite c =
    let xs = c.args.floats.now in
    let k = c.loop-k.k in
    let each = c.args.each in
    let e : finite (get_or xs k nan) ≡ false = sym c.is_finite.ensures ∙ c.if-not-is_finite.true in
    sym (c.loop-k.invariant
    ∙ first_stop refused done (judge xs each) (length xs) k (refusal NotFinite (k / each)) (omega arith) (ap (λ (b : Bool). refuse (not b) NotFinite (k / each)) e) refl)

pub loop-k-preserved : goal.loop-k-preserved
loop-k-preserved c =
    let xs = c.args.floats.now in
    let k = c.loop-k.k in
    let each = c.args.each in
    let e : finite (get_or xs k nan) ≡ true = sym c.is_finite.ensures ∙ c.if-not-is_finite.false in
    c.loop-k.invariant ∙ first_go refused done (judge xs each) (length xs) k (omega arith) (ap (λ (b : Bool). refused (refuse (not b) NotFinite (k / each))) e)

pub returns : goal.returns
unfolding numbers
returns c =
    let xs = c.args.floats.now in
    sym (c.loop-k.invariant ∙ first_end refused done (judge xs c.args.each) (length xs) c.loop-k.k (omega arith))
