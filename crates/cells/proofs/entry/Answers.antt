-- `cells::entry` meets its contract: one entry is left as it is.
use Rattle.std.proofs.Common.{◌≡◌, Bool, true, false, cond, Some, None, refl, ◌∙◌}
use Rattle.std.specs.Bool.{then_some}
use Rattle.cells.specs.Lookup.{searched, left, narrowed, halved}
use Rattle.cells.proofs.entry.Goals as goal

-- the library's word for it
by_test : {A : Type 0} (b : Bool) (x : A) → then_some b x ≡ cond b (Some x) None
by_test true x = refl
by_test false x = refl

pub returns : goal.returns
unfolding searched left narrowed halved
returns c = c.then_some.ensures ∙ by_test _ _
