-- `grid::inner::check_cover` meets its contract: before region r all stand in place, and `next` is the sum of their counts.
use Rattle.std.proofs.lemmas.Bool.{lt-leb}
use Rattle.std.proofs.Common.{◌≡◌, refl, sym, ap, ◌∙◌, Bool, true, false, ◌&&◌, not, List, ℕ, ◌+◌, ◌-◌, ◌≤◌, ◌<◌, add-one, arith, eqb, eq-eqb, ne_eqb, le-leb}
use Rattle.grid.specs.Table.{start_of, count_of, before, misplaced, cover}
use Rattle.grid.specs.declared.Rule.TheVariants.{Cover}
use Rattle.grid.proofs.Answers.{stop_at, go_on, none_left}
use Rattle.grid.proofs.inner.check_cover.Goals as goal

-- what the code's two tests tell of a region
starts : (ranges : List ℕ) (n r : ℕ) → (start_of ranges r ≡ before ranges r → ⊥) → misplaced ranges n r ≡ true
unfolding misplaced
starts ranges n r h = rw (ne_eqb (start_of ranges r) (before ranges r) h)

passes : (ranges : List ℕ) (n r : ℕ) → n < before ranges r + count_of ranges r → misplaced ranges n r ≡ true
unfolding misplaced
passes ranges n r l = rw (lt-leb (before ranges r + count_of ranges r) n l) (go (eqb (start_of ranges r) (before ranges r)))
  where
    go : (b : Bool) → not (b && false) ≡ true
    go true = refl
    go false = refl

stands : (ranges : List ℕ) (n r : ℕ) → start_of ranges r ≡ before ranges r → before ranges r + count_of ranges r ≤ n → misplaced ranges n r ≡ false
unfolding misplaced
stands ranges n r h l = rw (eq-eqb (start_of ranges r) (before ranges r) h, le-leb (before ranges r + count_of ranges r) n l)

-- the sum before the next region
more : (ranges : List ℕ) (r : ℕ) → before ranges (r + 1) ≡ before ranges r + count_of ranges r
unfolding before
more ranges r = rw add-one

pub loop-r-init : goal.loop-r-init
unfolding before
loop-r-init c = (omega arith, refl, let e : c.args.regions - 0 ≡ c.args.regions = omega arith in rw e)

pub returns-then-ranges-r : goal.returns-then-ranges-r
unfolding cover
returns-then-ranges-r c =
    let i = c.loop-r.invariant in
    let a = c.args in
    rw (i.2 ∙ stop_at (misplaced a.ranges.now a.particles) Cover _ _ (omega arith) (starts _ _ _ (λ e. omega (arith, e, i.1))))

pub returns-then-particles-next : goal.returns-then-particles-next
unfolding cover
returns-then-particles-next c =
    let i = c.loop-r.invariant in
    let a = c.args in
    rw (i.2
    ∙ stop_at (misplaced a.ranges.now a.particles) Cover _ _ (omega arith)
    (passes _ _ _ (omega arith)))

pub loop-r-preserved : goal.loop-r-preserved
unfolding before
loop-r-preserved c =
    let i = c.loop-r.invariant in
    let a = c.args in (
      omega arith,
      more _ _ ∙ ap (λ (n : ℕ). n + count_of a.ranges.now c.loop-r.r) i.1,
      i.2
          ∙ go_on (misplaced a.ranges.now a.particles) Cover _ _ (omega arith)
          (stands _ _ _ (omega arith) (omega arith)),
    )

-- past the last region, the sum is that of all counts
pub returns-then-next-particles : goal.returns-then-next-particles
unfolding cover
returns-then-next-particles c =
    let i = c.loop-r.invariant in
    let a = c.args in
    let e : c.loop-r.r ≡ a.regions = omega arith in
    let s : before a.ranges.now a.regions ≡ c.loop-r.next = ap (before a.ranges.now) (sym e) ∙ i.1 in
    rw (i.2 ∙ none_left (misplaced a.ranges.now a.particles) Cover _ _ (omega arith), s, ne_eqb _ _ c.if-next-particles.true)

pub returns : goal.returns
unfolding cover
returns c =
    let i = c.loop-r.invariant in
    let a = c.args in
    let e : c.loop-r.r ≡ a.regions = omega arith in
    let s : before a.ranges.now a.regions ≡ c.loop-r.next = ap (before a.ranges.now) (sym e) ∙ i.1 in
    rw (i.2 ∙ none_left (misplaced a.ranges.now a.particles) Cover _ _ (omega arith), s, eq-eqb _ _ c.if-next-particles.false)
