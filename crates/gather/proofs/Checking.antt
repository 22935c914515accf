-- The checks of both halves in the steps in which the code makes them, and what they have shown where they refuse nothing. Assumes nothing.
use Rattle.std.proofs.Common.{◌≡◌, ℕ, ◌*◌, Bool, true, false, not, ◌&&◌, eqb, List, [], ◌∷◌, length, refl, ap, ◌∙◌, eqb-true}
use Rattle.std.specs.Prelude.{Float}
use Rattle.laws.specs.Store.{Store, store, Holds}
use Rattle.laws.specs.Hits.{run, gather, changes}
use Rattle.laws.specs.Refusals as Refusals
use Rattle.laws.proofs.Refusals.{unless_passed}
use Rattle.grid.specs.Answers.{refused, refuse, unless, done}
use Rattle.grid.specs.Table.{matches, limits, good_width, good_step, called, codes, is_flag, flags, numbers, before}
use Rattle.grid.specs.declared.Rule.TheVariants.{Length}
use Rattle.grid.proofs.Lengths.{and_split, regroup}
use Rattle.grid.proofs.Steps.{called_then, passed}
use Rattle.particles.specs.Particles.{floats_per_particle, words_per_particle, particle_form}
use Rattle.particles.specs.Table.{particle_lengths, first_particle, Ready}
use Rattle.particles.proofs.Staging.{staged, empty}
use Rattle.gather.specs.Gather.{given_floats, given_words, given_lengths, first_half, second_half, first_check, records_check, second_check, Empty}
use Rattle.gather.proofs.Ranging.{all_taken}

-- a first half that is not refused has what it builds on, and its regions have all particles
pub first_ready : (h dt : Float) (modified regions : ℕ) (ids ranges : List ℕ) (count : ℕ) (s : Store) (nf : List Float) (nw : List ℕ)
    → refused (first_check h dt modified regions ids ranges count s (length nf) (length nw)) ≡ false → Ready h ids ranges s (store nf nw) × (before ranges (length ids) ≡ count)
unfolding first_check
first_ready h dt modified regions ids ranges count s nf nw e =
    let r = staged (good_width h ∷ good_step dt ∷ []) (codes (is_flag modified ∷ [])) h regions ids ranges count s nf nw e in
    (r.ready, all_taken r.ready r.held)

module _ (count : ℕ) (s given : Store) where
  -- whether all lengths match, as the code asks
  abbrev pub fitting : Bool
  fitting = matches (particle_lengths count (length s.floats) (length s.words)) && matches (given_lengths count (length given.floats) (length given.words))

  pub check_is : second_check count s given ≡ unless (called fitting (limits 0 count 0) true done) (records_check count s given)
  unfolding second_check
  check_is =
      let l = regroup (eqb (length s.floats) (count * floats_per_particle)) (eqb (length s.words) (count * words_per_particle)) (matches (given_lengths count (length given.floats) (length given.words))) in
      ap (λ (x : Bool). unless (refuse (not x) Length 0) (unless (limits 0 count 0) (unless (records_check count s given) done))) l
      ∙ called_then fitting (limits 0 count 0) true done (records_check count s given)

  -- ---- what the second half's has shown

  pub record Fitted : Type 0 where
    pub particles_held : Holds particle_form s count
    pub floats_long : length given.floats ≡ count * given_floats
    pub words_long : length given.words ≡ count * given_words

  pub fitted : fitting ≡ true → Fitted
  fitted e =
      let particles = matches (particle_lengths count (length s.floats) (length s.words)) in
      let a = and_split particles (matches (given_lengths count (length given.floats) (length given.words))) e in
      let b = and_split (eqb (length s.floats) (count * floats_per_particle)) (eqb (length s.words) (count * words_per_particle) && true) a.0 in
      let c = and_split (eqb (length given.floats) (count * given_floats)) (eqb (length given.words) (count * given_words) && true) a.1 in
      record {
        particles_held = record {
          floats_long = eqb-true (length s.floats) (count * floats_per_particle) b.0;
          words_long = eqb-true (length s.words) (count * words_per_particle) (and_split (eqb (length s.words) (count * words_per_particle)) true b.1).0;
        };
        floats_long = eqb-true (length given.floats) (count * given_floats) c.0;
        words_long = eqb-true (length given.words) (count * given_words) (and_split (eqb (length given.words) (count * given_words)) true c.1).0;
      }

  pub second_fitted : refused (second_check count s given) ≡ false → Fitted
  second_fitted e =
      let first = called fitting (limits 0 count 0) true done in
      let steps : refused (unless first (records_check count s given)) ≡ false = rw check_is at e in
      fitted (passed fitting (limits 0 count 0) true done (unless_passed refused first (records_check count s given) steps).0).lengths

-- ---- both halves of nothing

pub nothing : Empty
unfolding first_check second_check records_check first_particle flags numbers Refusals.first_of first_half second_half changes gather run
nothing =
    record {
      first_check_lem = λ h dt modified. empty.stage (good_width h ∷ good_step dt ∷ []) (codes (is_flag modified ∷ [])) h;
      first_kept = λ h dt modified ids nodes s. refl;
      second_check_lem = refl;
      second_kept = λ given s. refl;
    }
