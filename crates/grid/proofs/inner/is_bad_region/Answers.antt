-- `grid::inner::is_bad_region` meets its contract.
use Rattle.std.proofs.Common.{◌≡◌, refl, sym, ◌∙◌, List, ℕ, zero, suc, ◌-◌, arith, eq-eqb, ne_eqb, ltb, get_or}
use Rattle.packing.specs.Ids.{region}
use Rattle.grid.specs.Table.{ascends, bad_region}
use Rattle.grid.proofs.inner.is_bad_region.Goals as goal

-- behind the first region there is one before
after : (ids : List ℕ) (k : ℕ) → (k ≡ 0 → ⊥) → ascends ids k ≡ ltb (get_or ids (k - 1) 0) (get_or ids k 0)
after ids zero n = absurd (n refl)
after ids (suc k) n = let e : suc k - 1 ≡ k = omega arith in rw e

pub returns-then-region_of-id : goal.returns-then-region_of-id
unfolding bad_region
returns-then-region_of-id c =
    let id = get_or c.args.ids.now c.args.k 0 in
    rw (ne_eqb (region id) id (λ e. c.if-region_of-id.true (c.region_of.ensures ∙ e)))

pub returns-then-k-eq0 : goal.returns-then-k-eq0
unfolding bad_region
returns-then-k-eq0 c =
    let id = get_or c.args.ids.now c.args.k 0 in
    rw (eq-eqb (region id) id (sym c.region_of.ensures ∙ c.if-region_of-id.false), c.if-k-eq0.true)

pub returns : goal.returns
unfolding bad_region
returns c =
    let ids = c.args.ids.now in
    let k = c.args.k in
    let id = get_or ids k 0 in
    rw (eq-eqb (region id) id (sym c.region_of.ensures ∙ c.if-region_of-id.false), after ids k c.if-k-eq0.false)
