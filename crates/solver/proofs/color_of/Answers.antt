-- `solver::color_of` meets its contract: one of the first three is found, or the last is left.
use Rattle.std.proofs.Common.{◌≡◌, ℕ, ◌<◌, ◌≤◌, eqb, true, false, Option, Some, None, unwrap_or, sym, ◌∙◌, rules, tests, arith}
use Rattle.std.proofs.lemmas.Bool.{eqb-true, eqb-false}
use Rattle.std.proofs.lemmas.Iterator.{first_from_Range}
use Rattle.std.specs.Option.{MatchOption}
use Rattle.packing.specs.Ids.{dim2, in_colour}
use Rattle.packing.proofs.Laws.{laws2, plane}
use Rattle.solver.proofs.color_of.Goals as goal

-- below 4 there is the one that is found, or one left
found : (x : ℕ) (r : Option ℕ) → x < 4 → MatchOption r ((k : ℕ) → 0 ≤ k → k < 3 → eqb x k ≡ false) (λ i. (0 ≤ i) × (i < 3) × (eqb x i ≡ true) × ((k : ℕ) → 0 ≤ k → k < i → eqb x k ≡ false)) → unwrap_or r 3 ≡ x
found x None l m = omega (arith, l, eqb-false x 0 (m 0 (omega arith) (omega arith)), eqb-false x 1 (m 1 (omega arith) (omega arith)), eqb-false x 2 (m 2 (omega arith) (omega arith)))
found x (Some i) l m = sym (eqb-true x i m.2)

pub returns : goal.returns
returns c =
    let r = c.args.region_id in
    c.unwrap_or.ensures
    ∙ found _ _ (rw plane.axes at (laws2.colours r))
    (first_from_Range _ _ _ c.find.result (λ x. in_colour dim2 r x ≡ true) (λ x. in_colour dim2 r x ≡ false) c.find.ensures.ran (λ x q k. search (rules, tests)) (λ x q k. search (rules, tests)))
