-- What is seen in one pass: particles that no rule refuses, region by region, so that the check is done. Assumes nothing.
use Rattle.std.proofs.Common.{◌≡◌, refl, sym, ap, ◌∙◌, Bool, true, false, not, List, [], ◌∷◌, ⊎_elim, ℕ, zero, suc, ◌+◌, ◌*◌, ◌/◌, ◌%◌, ◌≤◌, ◌<◌, arith, Float, length, get_or, eq-eqb, None, Option, Some}
use Rattle.laws.specs.Store.{Store}
use Rattle.laws.specs.Refusals as Refusals
use Rattle.laws.proofs.Refusals as Refused
use Rattle.laws.proofs.Rows.{lt_or_ge}
use Rattle.packing.specs.Ids.{dim2, packed_id, region, number, stencil_of}
use Rattle.packing.proofs.Laws.{plane}
use Rattle.cells.specs.Cells.{cell_associated_to_point, region_associated_to_point}
use Rattle.cells.specs.Lookup.{lookup}
use Rattle.cells.specs.Stencil.{step_at}
use Rattle.grid.specs.Answers.{refused, refuse, done}
use Rattle.grid.specs.Table.{region_ids, start_of, count_of, before, cover, Covers}
use Rattle.grid.specs.declared.Rule.{Rule}
use Rattle.grid.specs.declared.Rule.TheVariants.{Length, Limit, Setting, Code, NotFinite, RegionIds, Cover, OffGrid, OutOfRegion, Unlisted}
use Rattle.particles.specs.Particles.{particle_at, position_of}
use Rattle.particles.specs.Places.{of_region, node_place}
use Rattle.particles.specs.Table.{off_grid, out_of_region, is_at, listed, unlisted, judged, first_particle, out_of_regions, placed, checked, Passes, AllPass}
use Rattle.particles.specs.Blocks.{IsBlock, corner_of, AllThere, Stands, surrounded}
use Rattle.particles.specs.declared.particle.Particle.{Particle}
use Rattle.particles.proofs.Every.{all_of}
use Rattle.particles.proofs.Blocking as Blocking
use Rattle.particles.proofs.Placing as Placing

-- ---- one particle

-- its region is the one that it stands in
pub own : (h : Float) (x y r : ℕ) (q : Particle) → packed_id dim2 (x ∷ y ∷ []) ≡ r → region r ≡ r → Stands h x y q → region (cell_associated_to_point dim2 h (position_of q)) ≡ r
unfolding cell_associated_to_point
own h x y r q e w s = plane.region_packed _ _ ∙ rw (s.along_x, s.along_y) (sym (plane.region_packed x y)) ∙ ap region e ∙ w

-- a place that is there is in a listed region
is_listed : (ids : List ℕ) (cell : ℕ) → is_at (node_place ids cell) ≡ true → listed ids cell ≡ true
unfolding node_place
is_listed ids cell e = go (lookup ids (region cell)) e
  where
    go : (f : Option ℕ) → is_at (of_region f (number dim2 cell)) ≡ true → is_at f ≡ true
    go (Some k) e = refl
    go None e = e

each_listed : (h : Float) (ids : List ℕ) (q : Particle) → ((i j : ℕ) → i < 3 → j < 3 → is_at (node_place ids (get_or (stencil_of dim2 (cell_associated_to_point dim2 h (position_of q))) (i * 3 + j) 0)) ≡ true) → unlisted h ids q ≡ false
unfolding unlisted
each_listed h ids q there =
    let stencil = stencil_of dim2 (cell_associated_to_point dim2 h (position_of q)) in
    ap not
    (all_of (listed ids) 0 stencil
    (λ k l.
    let u : k < 9 = rw (Placing.nine (cell_associated_to_point dim2 h (position_of q))) at l in
    let at : k / 3 * 3 + k % 3 ≡ k = omega arith in
    is_listed ids (get_or stencil k 0) (rw at at (there (k / 3) (k % 3) (omega arith) (omega arith)))))

-- by the places of its region's block
pub reached : (h : Float) (ids : List ℕ) (r : ℕ) (block : List ℕ) (q : Particle) → IsBlock ids r block → region (cell_associated_to_point dim2 h (position_of q)) ≡ r → AllThere block (corner_of h q) → unlisted h ids q ≡ false
reached h ids r block q is own there =
    each_listed h ids q (λ i j l u. ap is_at (sym ((Blocking.laws ids r block is).stencil h q own i j l u)) ∙ there (step_at i) (step_at j) (omega arith) (omega arith))

-- or since nothing that it could reach is missing
pub all_reached : (h : Float) (ids : List ℕ) (r : ℕ) (q : Particle) → region r ≡ r → surrounded ids r ≡ true → region (cell_associated_to_point dim2 h (position_of q)) ≡ r → unlisted h ids q ≡ false
all_reached h ids r q w every own = each_listed h ids q (Blocking.all_found ids r w every h q own)

pub passes : (h : Float) (ids : List ℕ) (x y r : ℕ) (q : Particle) → packed_id dim2 (x ∷ y ∷ []) ≡ r → region r ≡ r → Stands h x y q → unlisted h ids q ≡ false → Passes h ids r q
unfolding judged off_grid out_of_region region_associated_to_point
passes h ids x y r q e w s listed = go
  where
    go : Passes h ids r q
    go Length = refl
    go Limit = refl
    go Setting = refl
    go Code = s.flags
    go NotFinite = s.numbers
    go RegionIds = refl
    go Cover = refl
    go OffGrid = ap not s.on_grid_lem
    go OutOfRegion = ap not (eq-eqb _ _ (own h x y r q e w s))
    go Unlisted = listed

-- ---- all of them

-- a particle's region, where the regions cover the particles
record Home (ranges : List ℕ) (m p : ℕ) : Type 0 where
  at : ℕ
  is : at < m
  from : start_of ranges at ≤ p
  to : p < start_of ranges at + count_of ranges at

home : (regions : ℕ) (ranges : List ℕ) (n : ℕ) → Covers regions ranges n → (m : ℕ) → m ≤ regions → (p : ℕ) → p < before ranges m → Home ranges m p
unfolding before
home regions ranges n covers zero l p u = absurd (omega (arith, u))
home regions ranges n covers (suc m) l p u =
    ⊎_elim
    (λ (v : p < before ranges m). let a = home regions ranges n covers m (omega arith) p v in record { at = a.at; is = omega (arith, a.is); from = a.from; to = a.to })
    (λ (v : before ranges m ≤ p). let b = covers.begins m (omega arith) in record { at = m; is = omega arith; from = omega (arith, b); to = omega (arith, b, u) })
    (lt_or_ge p (before ranges m))

module _ (h : Float) (ids ranges : List ℕ) (s : Store) (n : ℕ) (covers : Covers (length ids) ranges n)
    (pass : (i : ℕ) → i < length ids → AllPass h ids (get_or ids i 0) s (start_of ranges i) (count_of ranges i)) where
  -- a rule that does not look at the region refuses none of the particles
  none : (rule : Rule) → ((r : ℕ) (q : Particle) → judged rule h ids r q ≡ false → judged rule h ids 0 q ≡ false) → first_particle rule h ids 0 s 0 n ≡ done
  unfolding first_particle
  none rule any =
      Refusals.Laws.none (Refused.laws refused done) (λ i. refuse (judged rule h ids 0 (particle_at s i)) rule i) 0 n
      (λ p l u.
      let a = home (length ids) ranges n covers (length ids) (omega arith) p (omega (arith, covers.all_taken)) in
      ap (λ (b : Bool). refused (refuse b rule p)) (any (get_or ids a.at 0) (particle_at s p) (pass a.at a.is p a.from a.to rule)))

  -- and none is out of its region
  all_in : out_of_regions h ids ranges s ≡ done
  unfolding out_of_regions first_particle
  all_in =
      Refusals.Laws.none (Refused.laws refused done) (λ r. first_particle OutOfRegion h ids (get_or ids r 0) s (start_of ranges r) (count_of ranges r)) 0 (length ids)
      (λ r l u.
      ap refused
      (Refusals.Laws.none (Refused.laws refused done) (λ i. refuse (judged OutOfRegion h ids (get_or ids r 0) (particle_at s i)) OutOfRegion i) (start_of ranges r) (count_of ranges r)
      (λ p a b. ap (λ (c : Bool). refused (refuse c OutOfRegion p)) (pass r (omega arith) p a b OutOfRegion))))

  pub all_pass : region_ids ids ≡ done → cover (length ids) ranges n ≡ done → checked h ids ranges s n ≡ done
  unfolding checked placed judged
  all_pass ids-good cover-good =
      rw (none Code (λ r q e. e), none NotFinite (λ r q e. e), ids-good, cover-good, none OffGrid (λ r q e. e), all_in, none Unlisted (λ r q e. e))
