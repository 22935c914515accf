-- `particles::inner::checks::is_accepted` meets its contract: with good ids and ranges, particles that pass region by region are refused by no rule.
use Rattle.std.proofs.Common.{◌≡◌, length, true, true≢false, refl, sym, ap, ◌∙◌, Ok, Err, is_ok}
use Rattle.grid.specs.Answers.{Answer, done, refused}
use Rattle.grid.specs.Table.{region_ids, cover}
use Rattle.grid.proofs.Passing as Grid
use Rattle.particles.proofs.Passing.{all_pass}
use Rattle.particles.proofs.inner.checks.is_accepted.Goals.{then-is_ok, else-is_ok, Then-is_ok-2}
use Rattle.particles.proofs.inner.checks.is_accepted.Goals as goal

is_done : (a : Answer) → is_ok a ≡ true → a ≡ done
is_done (Ok u) e = refl
is_done (Err r) e = absurd (true≢false (sym e))

-- what the two tests have shown
found : (c : Then-is_ok-2) → let a = c.args in (region_ids a.ids.now ≡ done) × (cover (length a.ids.now) a.ranges.now a.particles ≡ done)
found c =
    elim c.if-is_ok.branch [
      | then-is_ok w ↦ (
        sym c.check_regions.ensures ∙ is_done _ (sym c.is_ok.ensures.value ∙ w.if-is_ok.true),
        sym w.check_cover.ensures ∙ is_done _ (sym w.is_ok-then-is_ok.ensures.value ∙ sym w.value-is ∙ c.if-is_ok-2.true),
      )
      | else-is_ok w ↦ absurd (true≢false (sym c.if-is_ok-2.true ∙ w.value-is ∙ w.if-is_ok.false))
    ]

pub do_regions_pass-requires : goal.do_regions_pass-requires
do_regions_pass-requires c =
    let good = found (goal.at.do_regions_pass-requires c).Then-is_ok-2 in
    (Grid.regions _ (ap refused good.0), Grid.covers _ _ _ (ap refused good.1))

pub returns-then-is_ok-2 : goal.returns-then-is_ok-2
returns-then-is_ok-2 c e =
    let good = found (goal.at.returns-then-is_ok-2 c).Then-is_ok-2 in
    all_pass _ _ _ _ _ (Grid.covers _ _ _ (ap refused good.1)) (c.do_regions_pass.ensures e) good.0 good.1
