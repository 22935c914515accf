-- `particles::inner::checks::does_particle_stand` meets its contract: what it has asked of the particle holds where it says yes.
use Rattle.std.proofs.Common.{arith, ◌≡◌, Bool, true, false, ℕ, ◌-◌, refl, sym, ◌∙◌, eqb-true, Float}
use Rattle.numeric.specs.Round.{cast_u32}
use Rattle.cells.specs.Cells.{nearest, in_range, one_off}
use Rattle.cells.specs.Stencil.{IsCoordinate}
use Rattle.particles.specs.Table.{on_axis, OnGrid}
use Rattle.particles.specs.declared.particle.Particle.{Particle}
use Rattle.particles.proofs.inner.checks.does_particle_stand.Goals as goal

-- a coordinate that is not 0 is on the grid, and has a cell before it
on : (r : Float) (n : ℕ) → (n ≡ 0 → ⊥) → IsCoordinate r n → (in_range r ≡ true) × (n - 1 ≡ one_off (cast_u32 r))
on r n l i = go (in_range r) refl
  where
    go : (b : Bool) → in_range r ≡ b → (in_range r ≡ true) × (n - 1 ≡ one_off (cast_u32 r))
    go true t = let e : cast_u32 r ≡ n = sym (i.is ∙ rw t) in (t, omega (arith, e, l, i.below))
    go false f = absurd (l (i.is ∙ rw f))

on_grid_lem : (h : Float) (q : Particle) → in_range (nearest h q.position.x) ≡ true → in_range (nearest h q.position.y) ≡ true → OnGrid h q
unfolding on_axis
on_grid_lem h q x y = rw (x, y)

pub returns-then-near-corner : goal.returns-then-near-corner
returns-then-near-corner c e =
    let x = on _ _ c.if-near-eq0.false c.coordinates-near.ensures.0 in
    let y = on _ _ c.if-near-eq0-2.false c.coordinates-near.ensures.1 in
    record {
      flags = sym c.has_bad_flag.ensures ∙ c.if-has_bad_flag.false;
      numbers = sym c.is_not_finite.ensures ∙ c.if-is_not_finite.false;
      on_grid_lem = on_grid_lem c.args.h c.args.q x.0 y.0;
      along_x = rw (← x.1) c.if-near-corner.true;
      along_y = rw (← y.1) (eqb-true _ _ e);
    }
