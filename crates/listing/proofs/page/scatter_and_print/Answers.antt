-- Prints the nodes where the scatter is done, and else what it is refused for.
use Rattle.std.proofs.Common.{ℕ, refl, sym, ap, ◌∙◌}
use Rattle.listing.specs.Bench.{no_text}
use Rattle.listing.proofs.Calling.{no_called, listed_called, told}
use Rattle.listing.proofs.page.scatter_and_print.Goals as goal

pub returns-in-Ok : goal.returns-in-Ok
returns-in-Ok c =
    told c.args.page.now c.put_listed.ensures
    (listed_called _ _ _ _ _ _ refl c.clear_and_scatter.ensures.0 c.clear_and_scatter.ensures.1 c.in-Ok.is)

pub returns-in-Err : goal.returns-in-Err
returns-in-Err c =
    told c.args.page.now c.put_refusal.ensures
    (ap (λ (n : ℕ). no_text n c.in-Err.e.index) (c.from-in-Err.ensures ∙ c.from.ensures) ∙ no_called _ _ _ _ _ _ _ _ (sym c.clear_and_scatter.ensures.0 ∙ c.in-Err.is))
