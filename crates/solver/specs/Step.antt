-- Clear, scatter and update in turn: what the three together are refused for, and what they leave. Definitions only.
use Rattle.std.specs.Prelude.{List, [], ◌∷◌, ◌++◌, ℕ, ◌*◌, Float, length}
use Rattle.laws.specs.Store.{Store}
use Rattle.grid.specs.Answers.{first, Answer}
use Rattle.grid.specs.Table.{all, lengths, node_lengths, limits, finite, good_width, good_step, settings, flags, numbers, words_per_range}
use Rattle.grid.specs.Clear.{cleared}
use Rattle.grid.specs.declared.Rule.TheVariants.{Code, NotFinite}
use Rattle.particles.specs.Table.{particle_lengths, first_particle, placed}
use Rattle.scatter.specs.Scatter.{scattered}
use Rattle.update.specs.Update.{collider_floats, projection_floats, updated, projection_lengths, own_check}

-- 4 to 10 of the records: in 4 and 5 particles come first, then colliders, then projections
unfoldable pub records_check : Float → List ℕ → List ℕ → ℕ → Store → List Float → Store → Answer
records_check h ids ranges count particles frictions projections =
    first (
    first_particle Code h ids 0 particles 0 count
    ∷ flags projections.words
    ∷ first_particle NotFinite h ids 0 particles 0 count
    ∷ numbers collider_floats frictions
    ∷ numbers projection_floats projections.floats
    ∷ placed h ids ranges particles count
    ∷ []
    )

module _ (h dt : Float) (gravity : List Float) (code locks regions : ℕ) (ids ranges : List ℕ) (count : ℕ) (particles : Store) (colliders : ℕ) (frictions : List Float) (projections : Store) where
  -- 1 to 10, of all that the three are given
  unfoldable pub step_check : ℕ → ℕ → Answer
  step_check nf nw =
      first (
      lengths (
      (length ids, regions) ∷ (length ranges, regions * words_per_range) ∷ particle_lengths count (length particles.floats) (length particles.words)
      ++ ((length frictions, colliders * collider_floats) ∷ projection_lengths regions colliders (length projections.floats) (length projections.words) ++ node_lengths regions nf nw)
      )
      ∷ limits regions count colliders
      ∷ settings (good_width h ∷ good_step dt ∷ all finite gravity ∷ [])
      ∷ own_check code locks
      ∷ records_check h ids ranges count particles frictions projections
      ∷ []
      )

  unfoldable pub stepped : Store → Store
  stepped s = updated h dt code locks ids colliders frictions projections (scattered h dt gravity ids ranges particles (cleared regions s))
