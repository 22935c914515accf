-- Clear, scatter and update in turn are refused for nothing exactly where none of the three is. Assumes nothing.
use Rattle.std.proofs.Common.{◌≡◌, refl, ◌∙◌, Bool, true, ◌&&◌, List, [], ◌∷◌, ◌++◌, ℕ, ◌*◌, eqb, Float, length, eqb-true}
use Rattle.std.proofs.Math.Bool.{and-true}
use Rattle.laws.specs.Store.{Store}
use Rattle.grid.specs.Answers.{unless, Answer, done}
use Rattle.grid.specs.Table.{all, matches, lengths, node_lengths, limits, finite, good_width, good_step, settings, called, flags, numbers, region_ids, words_per_range}
use Rattle.grid.specs.Clear.{clear_check}
use Rattle.grid.specs.declared.Rule.TheVariants.{Length, Limit, Setting, Code, NotFinite}
use Rattle.grid.proofs.Steps.{called_then}
use Rattle.particles.specs.Particles.{floats_per_particle, words_per_particle}
use Rattle.particles.specs.Table.{particle_lengths, first_particle, placed, checked}
use Rattle.particles.proofs.Every.{every_append}
use Rattle.scatter.specs.Scatter.{scatter_check}
use Rattle.scatter.proofs.Clearing.{each_done, all_done, each, each_holds, all_hold, fits, limited, holds, counts, scatter_lengths, scatter_settings, of_scatter, of_particles, ids_placed, clear_done}
use Rattle.update.specs.Update.{collider_floats, projection_floats, projection_lengths, given, own_check, update_check}
use Rattle.solver.specs.Step.{records_check, step_check}

module _ (h dt : Float) (gravity : List Float) (code locks regions : ℕ) (ids ranges : List ℕ) (count : ℕ) (particles : Store) (colliders : ℕ) (frictions : List Float) (projections : Store) (nf nw : ℕ) where
  abbrev update_lengths : List (ℕ × ℕ)
  update_lengths = (length ids, regions) ∷ (length frictions, colliders * collider_floats) ∷ projection_lengths regions colliders (length projections.floats) (length projections.words) ++ node_lengths regions nf nw

  abbrev step_lengths_lem : List (ℕ × ℕ)
  step_lengths_lem =
      (length ids, regions) ∷ (length ranges, regions * words_per_range) ∷ particle_lengths count (length particles.floats) (length particles.words)
      ++ ((length frictions, colliders * collider_floats) ∷ projection_lengths regions colliders (length projections.floats) (length projections.words) ++ node_lengths regions nf nw)

  abbrev update_settings : List Bool
  update_settings = good_width h ∷ good_step dt ∷ []

  abbrev of_update : List Answer
  of_update = lengths update_lengths ∷ limits regions 0 colliders ∷ settings update_settings ∷ own_check code locks ∷ given ids frictions projections ∷ []

  abbrev of_step : List Answer
  of_step = lengths step_lengths_lem ∷ limits regions count colliders ∷ settings (scatter_settings h dt gravity) ∷ own_check code locks ∷ records_check h ids ranges count particles frictions projections ∷ []

  abbrev of_projections : List Answer
  of_projections = flags projections.words ∷ numbers collider_floats frictions ∷ numbers projection_floats projections.floats ∷ region_ids ids ∷ []

  abbrev of_records : List Answer
  of_records =
      first_particle Code h ids 0 particles 0 count ∷ flags projections.words ∷ first_particle NotFinite h ids 0 particles 0 count ∷ numbers collider_floats frictions
      ∷ numbers projection_floats projections.floats ∷ placed h ids ranges particles count ∷ []

  pub apart_done : step_check h dt gravity code locks regions ids ranges count particles colliders frictions projections nf nw ≡ done
      → (clear_check regions ids nf nw ≡ done) × (scatter_check done h dt gravity regions ids ranges count particles nf nw ≡ done) × (update_check h dt code locks regions ids colliders frictions projections nf nw ≡ done)
  unfolding step_check records_check clear_check scatter_check checked update_check given
  apart_done e =
      let step = each_done of_step e in
      let l = each_holds fits Length (0, 0) refl step_lengths_lem (step 0) in
      let m = each_holds limited Limit (0, 0) refl (counts regions count colliders) (step 1) in
      let s = each_holds holds Setting true refl (scatter_settings h dt gravity) (step 2) in
      let r = each_done of_records (step 4) in
      let i = ids_placed h ids ranges count particles (r 5) in
      let scatter : scatter_check done h dt gravity regions ids ranges count particles nf nw ≡ done
      = all_done (of_scatter h dt gravity regions ids ranges count particles nf nw)
      (all_hold fits Length (scatter_lengths regions ids ranges count particles nf nw) (l 0, (l 1, (l 2, (l 3, (l 7, (l 8, tt)))))), (all_hold limited Limit (counts regions count 0) (m 0, (m 1, (refl, tt))), (step 2, (refl, (all_done (of_particles h ids ranges count particles) (r 0, (r 2, (r 5, tt))), tt))))) in (
        clear_done h dt gravity regions ids ranges count particles nf nw scatter,
        scatter,
        all_done of_update
            (all_hold fits Length update_lengths (l 0, (l 4, (l 5, (l 6, (l 7, (l 8, tt)))))), (all_hold limited Limit (counts regions 0 colliders) (m 0, (refl, (m 2, tt))), (all_hold holds Setting update_settings (s 0, (s 1, tt)), (step 3, (all_done of_projections (r 1, (r 3, (r 4, (i, tt)))), tt))))),
      )

  pub step_done : (scatter_check done h dt gravity regions ids ranges count particles nf nw ≡ done) → (update_check h dt code locks regions ids colliders frictions projections nf nw ≡ done)
      → step_check h dt gravity code locks regions ids ranges count particles colliders frictions projections nf nw ≡ done
  unfolding step_check records_check scatter_check checked update_check given
  step_done e f =
      let scatter = each_done (of_scatter h dt gravity regions ids ranges count particles nf nw) e in
      let update = each_done of_update f in
      let l = each_holds fits Length (0, 0) refl (scatter_lengths regions ids ranges count particles nf nw) (scatter 0) in
      let k = each_holds fits Length (0, 0) refl update_lengths (update 0) in
      let m = each_holds limited Limit (0, 0) refl (counts regions count 0) (scatter 1) in
      let n = each_holds limited Limit (0, 0) refl (counts regions 0 colliders) (update 1) in
      let p = each_done (of_particles h ids ranges count particles) (scatter 4) in
      let j = each_done of_projections (update 4) in
      all_done of_step
      (all_hold fits Length step_lengths_lem (l 0, (l 1, (l 2, (l 3, (k 1, (k 2, (k 3, (k 4, (k 5, tt))))))))), (all_hold limited Limit (counts regions count colliders) (m 0, (m 1, (n 2, tt))), (scatter 2, (update 3, (all_done of_records (p 0, (j 0, (p 1, (j 1, (j 2, (p 2, tt)))))), tt)))))

  -- ---- the check in the steps in which the code makes it

  -- whether all lengths match, and whether all settings are good, as the code asks
  abbrev pub fitting : Bool
  fitting =
      eqb (length ids) regions && (eqb (length ranges) (regions * words_per_range) && (matches (particle_lengths count (length particles.floats) (length particles.words))
      && (eqb (length frictions) (colliders * collider_floats) && (matches (projection_lengths regions colliders (length projections.floats) (length projections.words)) && matches (node_lengths regions nf nw)))))

  abbrev pub set : Bool
  set = good_width h && (good_step dt && all finite gravity)

  fitting_is : matches step_lengths_lem ≡ fitting
  fitting_is =
      let particle = particle_lengths count (length particles.floats) (length particles.words) in
      let projection = projection_lengths regions colliders (length projections.floats) (length projections.words) in
      rw (
        every_append fits particle ((length frictions, colliders * collider_floats) ∷ projection ++ node_lengths regions nf nw),
        every_append fits projection (node_lengths regions nf nw),
      )

  pub check_is : step_check h dt gravity code locks regions ids ranges count particles colliders frictions projections nf nw
      ≡ unless (called fitting (limits regions count colliders) set (own_check code locks)) (records_check h ids ranges count particles frictions projections)
  unfolding step_check
  check_is =
      rw (fitting_is, and-true (all finite gravity))
      (called_then fitting (limits regions count colliders) set (own_check code locks) (records_check h ids ranges count particles frictions projections))

  -- what the first step has shown
  pub fitted : fitting ≡ true → (length ids ≡ regions) × (length ranges ≡ regions * words_per_range) × (length particles.floats ≡ count * floats_per_particle) × (length particles.words ≡ count * words_per_particle)
  fitted e =
      let l = each fits (0, 0) refl step_lengths_lem (fitting_is ∙ e) in (
        eqb-true (length ids) regions (l 0),
        eqb-true (length ranges) (regions * words_per_range) (l 1),
        eqb-true (length particles.floats) (count * floats_per_particle) (l 2),
        eqb-true (length particles.words) (count * words_per_particle) (l 3),
      )
