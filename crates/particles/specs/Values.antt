-- The definitions on values that can be followed by hand. Assumes nothing.
use Rattle.grid.specs.Answers.{done, refusal}
use Rattle.std.specs.Prelude.{true, false, List, [], ◌∷◌, ◌++◌, map, ◌≡◌, refl, ℕ, zero, suc, Float}
use Rattle.std.specs.Float.{nan, inf, binary32}
use Rattle.std.specs.Float.Ieee.{neg, le, round, div, of_bits, to_bits}
use Rattle.numeric.specs.Bits.{none, half, one}
use Rattle.numeric.specs.Round.{round_away}
use Rattle.laws.specs.Store.{Store, store}
use Rattle.laws.specs.Refusals as Refusals
use Rattle.grid.specs.Table.{finite}
use Rattle.grid.specs.declared.Rule.TheVariants.{Code, NotFinite}
use Rattle.particles.specs.Particles.{particle_at, put_particle}
use Rattle.particles.specs.Table.{bad_flag, not_finite, on_axis, off_grid, judged, first_particle, checked}

abbrev bits : Float → ℕ
bits x = to_bits binary32 x

-- n times the same number
abbrev many : ℕ → Float → List Float
many zero x = []
many (suc n) x = x ∷ many n x

-- n floats whose patterns are b, b + 1, ..
abbrev counted : ℕ → ℕ → List Float
counted zero b = []
counted (suc n) b = of_bits binary32 b ∷ counted n (suc b)

-- three particles at (1, 1), the others' numbers 1, no flag; in the second the last number is a NaN, in the third the last flag is 2
abbrev three : Store
three = store (many 26 one ++ (many 25 one ++ (nan ∷ many 26 one))) (0 ∷ 0 ∷ 0 ∷ 0 ∷ 0 ∷ 0 ∷ 0 ∷ 0 ∷ 0 ∷ 0 ∷ 0 ∷ 2 ∷ [])

-- two particles, each number with a pattern of its own
abbrev two : Store
two = store (counted 52 0x3f800000) (0 ∷ 1 ∷ 2 ∷ 3 ∷ 4 ∷ 5 ∷ 6 ∷ 7 ∷ [])

pub record Values : Type 0 where
  -- the second record's first and last float and word
  pub place : (bits (particle_at two 1).position.x ≡ 0x3f80001a) × (bits (particle_at two 1).kinematic_vel.y ≡ 0x3f800033) × ((particle_at two 1).failed ≡ 4) × ((particle_at two 1).is_static ≡ 7)
  -- what is read and put back in its place leaves the store as it was
  pub back : (map bits (put_particle two 1 (particle_at two 1)).floats ≡ map bits two.floats) × ((put_particle two 1 (particle_at two 1)).words ≡ two.words)
  pub flags : (bad_flag (particle_at three 0) ≡ false) × (bad_flag (particle_at three 2) ≡ true)
  pub numbers : (not_finite (particle_at three 0) ≡ false) × (not_finite (particle_at three 1) ≡ true)
  -- h = 1: r is 1 at 1/2 and at 1, 0 just below 1/2; 65,535 is the last
  pub axis : map (on_axis one) (half ∷ one ∷ of_bits binary32 0x477fff00 ∷ []) ≡ true ∷ true ∷ true ∷ []
  pub beyond : map (on_axis one) (of_bits binary32 0x3effffff ∷ none ∷ neg one ∷ of_bits binary32 0x47800000 ∷ inf false ∷ nan ∷ []) ≡ false ∷ false ∷ false ∷ false ∷ false ∷ false ∷ []
  pub on_grid : off_grid one (particle_at three 0) ≡ false
  -- each rule by itself: the first record that it refuses, or none; and from a place on
  pub alone : (first_particle Code one [] 0 three 0 3 ≡ refusal Code 2) × (first_particle NotFinite one [] 0 three 0 3 ≡ refusal NotFinite 1) × (first_particle NotFinite one [] 0 three 2 1 ≡ done)
  -- a flag in the third record is found before a NaN in the second
  pub order : checked one [] [] three 3 ≡ refusal Code 2
  pub next : checked one [] [] three 2 ≡ refusal NotFinite 1

pub values : Values
unfolding particle_at put_particle bad_flag not_finite on_axis off_grid judged first_particle checked finite round_away Refusals.first_of round div le neg of_bits to_bits
values =
    record {
      place = (refl, refl, refl, refl);
      back = (refl, refl);
      flags = (refl, refl);
      numbers = (refl, refl);
      axis = refl;
      beyond = refl;
      on_grid = refl;
      alone = (refl, refl, refl);
      order = refl;
      next = refl;
    }
