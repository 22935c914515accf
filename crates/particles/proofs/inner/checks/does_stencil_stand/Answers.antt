-- `particles::inner::checks::does_stencil_stand` meets its contract: the corner is the particle's.
use Rattle.std.proofs.Common.{◌≡◌, ap, ◌∙◌, subst, List, ℕ, get_or}
use Rattle.particles.specs.Blocks.{corner_in, corner_of, AllThere}
use Rattle.particles.proofs.Placing.{in_range_lem}
use Rattle.particles.proofs.inner.checks.does_stencil_stand.Goals as goal

pub nearest-near-requires : goal.nearest-near-requires
nearest-near-requires c = in_range_lem c.args.h c.args.q c.requires.1

pub are_there-requires : goal.are_there-requires
are_there-requires c = (c.requires.0, c.corner_of.ensures.1)

pub returns : goal.returns
returns c e =
    let a = c.args in
    let k = c.corner_of in
    let corner : k.result ≡ corner_of a.h a.q = k.ensures.0 ∙ ap (λ (xs : List ℕ). corner_in (get_or xs 0 0) (get_or xs 1 0)) c.nearest-near.ensures.1 in
    subst (AllThere a.block.now) corner (c.are_there.ensures e)
