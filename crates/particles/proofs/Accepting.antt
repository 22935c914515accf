-- What a check that refuses nothing has shown. Assumes nothing.
use Rattle.std.proofs.Common.{◌≡◌, false, List, [], ◌∷◌, ℕ, ◌+◌, ◌≤◌, ◌<◌, arith, eqb, Float, length, get_or, eqb-true}
use Rattle.laws.specs.Store.{Store}
use Rattle.laws.specs.Refusals as Refusals
use Rattle.laws.proofs.Refusals as Refused
use Rattle.packing.specs.Ids.{dim2, stencil_of}
use Rattle.cells.specs.Cells.{cell_associated_to_point, region_associated_to_point}
use Rattle.grid.specs.Answers.{refused, refuse, first, Answer, done}
use Rattle.grid.specs.Table.{all, finite, is_flag, region_ids, start_of, count_of, cover}
use Rattle.grid.specs.declared.Rule.{Rule}
use Rattle.grid.specs.declared.Rule.TheVariants.{Code, NotFinite, OffGrid, OutOfRegion, Unlisted}
use Rattle.grid.proofs.Answers.{refuse_passed, not_false}
use Rattle.grid.proofs.Passing as Passing
use Rattle.particles.specs.Particles.{particle_form, particle_at, position_of}
use Rattle.particles.specs.Table.{bad_flag, not_finite, on_axis, off_grid, out_of_region, listed, unlisted, judged, first_particle, out_of_regions, placed, checked, Accepted}

-- the head and the tail of a list of answers of which none refuses
split : (a : Answer) (later : List Answer) → refused (first (a ∷ later)) ≡ false → (refused a ≡ false) × (refused (first later) ≡ false)
split a later e = Refused.unless_passed refused a (first later) e

-- a rule that refuses none of the particles refuses not this one
none : (rule : Rule) (h : Float) (ids : List ℕ) (r : ℕ) (s : Store) (p n : ℕ) → refused (first_particle rule h ids r s p n) ≡ false
    → (k : ℕ) → p ≤ k → k < p + n → judged rule h ids r (particle_at s k) ≡ false
unfolding first_particle
none rule h ids r s p n e k l b =
    refuse_passed (judged rule h ids r (particle_at s k)) rule k
    (Refusals.Laws.passed (Refused.laws refused done) (λ i. refuse (judged rule h ids r (particle_at s i)) rule i) p n e k l b)

pub accepted : (h : Float) (ids ranges : List ℕ) (s : Store) (n : ℕ) → refused (checked h ids ranges s n) ≡ false → Accepted h ids ranges s n
unfolding checked placed judged bad_flag not_finite off_grid out_of_region unlisted out_of_regions
accepted h ids ranges s n e =
    let four = split (first_particle Code h ids 0 s 0 n) (first_particle NotFinite h ids 0 s 0 n ∷ placed h ids ranges s n ∷ []) e in
    let five = split (first_particle NotFinite h ids 0 s 0 n) (placed h ids ranges s n ∷ []) four.1 in
    let placing = (split (placed h ids ranges s n) [] five.1).0 in
    let last : List Answer = first_particle Unlisted h ids 0 s 0 n ∷ [] in
    let six = split (region_ids ids) (cover (length ids) ranges n ∷ first_particle OffGrid h ids 0 s 0 n ∷ out_of_regions h ids ranges s ∷ last) placing in
    let seven = split (cover (length ids) ranges n) (first_particle OffGrid h ids 0 s 0 n ∷ out_of_regions h ids ranges s ∷ last) six.1 in
    let eight = split (first_particle OffGrid h ids 0 s 0 n) (out_of_regions h ids ranges s ∷ last) seven.1 in
    let nine = split (out_of_regions h ids ranges s) last eight.1 in
    let ten = split (first_particle Unlisted h ids 0 s 0 n) [] nine.1 in
    record {
      flags = λ p b. not_false (all is_flag (particle_form.words_of (particle_at s p))) (none Code h ids 0 s 0 n four.0 p (omega arith) (omega arith));
      numbers = λ p b. not_false (all finite (particle_form.floats_of (particle_at s p))) (none NotFinite h ids 0 s 0 n five.0 p (omega arith) (omega arith));
      regions = Passing.regions ids six.0;
      covers = Passing.covers (length ids) ranges n seven.0;
      on_grid_lem = λ p b. not_false (all (on_axis h) (position_of (particle_at s p))) (none OffGrid h ids 0 s 0 n eight.0 p (omega arith) (omega arith));
      in_region = λ r b p l u.
          eqb-true (region_associated_to_point dim2 h (position_of (particle_at s p))) (get_or ids r 0)
          (not_false (eqb (region_associated_to_point dim2 h (position_of (particle_at s p))) (get_or ids r 0))
          (none OutOfRegion h ids (get_or ids r 0) s (start_of ranges r) (count_of ranges r)
          (Refusals.Laws.passed (Refused.laws refused done) (λ i. first_particle OutOfRegion h ids (get_or ids i 0) s (start_of ranges i) (count_of ranges i)) 0 (length ids) nine.0 r (omega arith) (omega arith))
          p l u));
      stencils = λ p b.
          not_false (all (listed ids) (stencil_of dim2 (cell_associated_to_point dim2 h (position_of (particle_at s p))))) (none Unlisted h ids 0 s 0 n ten.0 p (omega arith) (omega arith));
    }
