-- `particles::inner::blocks::block_of` meets its contract: the places below k are there.
use Rattle.std.proofs.Common.{List, ⊎_elim, ◌≡◌, sym, ap, ◌∙◌, ℕ, ◌+◌, ◌*◌, ◌/◌, ◌%◌, ◌≤◌, ◌<◌, eq-or-lt_of_le, arith, length, get_or, set, get_or-set_same, get_or-set_other, None, Option}
use Rattle.particles.specs.Blocks.{block_side, found_at}
use Rattle.particles.proofs.Blocking.{in_block, reach_in, reached_in}
use Rattle.particles.proofs.inner.blocks.block_of.Invariants.{at, Filled}
use Rattle.particles.proofs.inner.blocks.block_of.Goals as goal

one_more : (reach : List (Option ℕ)) (block : List ℕ) (k f : ℕ) → k < length block → found_at f ≡ at reach k → Filled reach block k → Filled reach (set block k f) (k + 1)
one_more reach block k f l e filled j u =
    ⊎_elim
    (λ (same : j ≡ k). rw same (ap found_at (get_or-set_same block k f 0 l) ∙ e))
    (λ (less : j < k). ap found_at (get_or-set_other block k j f 0 (λ (same : j ≡ k). omega (arith, same, less))) ∙ filled j less)
    (eq-or-lt_of_le (let v : j ≤ k = omega arith in v))

pub place_in-requires : goal.place_in-requires
place_in-requires c =
    (omega arith, omega arith, ap length c.reach_of-reach.ensures, λ k e there. omega (arith, c.requires.0, reach_in c.args.ids.now c.args.region_id k e (ap (λ (l : List (Option ℕ)). get_or l k None) (sym c.reach_of-reach.ensures) ∙ there)))

pub numbered-requires : goal.numbered-requires
numbered-requires c e there =
    let k = c.loop-k.k in
    omega (arith, c.requires.0, reached_in c.args.ids.now c.args.region_id (k % block_side / 4 + 2 * (k / block_side / 4)) (k % block_side % 4 + 4 * (k / block_side % 4)) c.reach_of-reach.result _ e c.place_in.ensures (omega arith) c.reach_of-reach.ensures there)

pub loop-k-preserved : goal.loop-k-preserved
loop-k-preserved c = one_more c.reach_of-reach.result c.loop-k.number-items c.loop-k.k _ (omega arith) (c.numbered.ensures ∙ c.place_in.ensures) c.loop-k.invariant

pub returns : goal.returns
returns c x y l u =
    let d : (x + block_side * y) % block_side ≡ x = omega arith in
    let q : (x + block_side * y) / block_side ≡ y = omega arith in
    c.loop-k.invariant (x + block_side * y) (omega arith)
    ∙ rw (d, q, c.reach_of-reach.ensures) (in_block c.args.ids.now c.args.region_id c.requires.1 x y (omega arith) (omega arith))
