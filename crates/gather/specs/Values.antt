-- What both halves make of a particle, and what their calls are refused for, on values that can be followed by hand; a whole first half is among solver's. Assumes nothing.
use Rattle.grid.specs.Answers.{Answer, done, refusal}
use Rattle.std.specs.Prelude.{◌≡◌, ℕ, zero, suc, Bool, true, false, cond, List, [], ◌∷◌, ◌++◌, map, refl, Float}
use Rattle.std.specs.Float.{nan, inf, binary32}
use Rattle.std.specs.Float.Ieee.{is_nan, neg, lt, le, eq, ne, sub, mul, div, of_bits, to_bits, of_int}
use Rattle.numeric.specs.Bits.{none, half, one, two, four}
use Rattle.numeric.specs.Kernel.{inv_d, eval_all, precompute_weights}
use Rattle.numeric.specs.Round.{round_away, nearest_to}
use Rattle.numeric.specs.Scalar.{inverse, maximum, magnitude}
use Rattle.laws.specs.Store.{Store, store, records}
use Rattle.laws.specs.Hits.{hit, run, gather, changes}
use Rattle.laws.specs.Refusals as Refusals
use Rattle.cells.specs.Stencil.{dir_to_associated_grid_node}
use Rattle.grid.specs.Table.{finite, flags, numbers, good_width, good_step}
use Rattle.grid.specs.declared.Rule.TheVariants.{Length, Setting, Code, NotFinite}
use Rattle.particles.specs.Particles.{particle_form, particle_at, particles}
use Rattle.particles.specs.Table.{bad_flag, not_finite, judged, first_particle, placed, checked}
use Rattle.particles.specs.declared.particle.Particle.{Particle}
use Rattle.gather.specs.Transfer.{Taken, Body, Given, State, nothing, taken_from, moved, fails, settled, advanced, finished}
use Rattle.gather.specs.Gather.{second_change, second_half, first_check, records_check, second_check}

abbrev pub bits : Float → ℕ
bits x = to_bits binary32 x

-- a number by its pattern, and a whole number
abbrev pub pattern : ℕ → Float
pattern b = of_bits binary32 b

abbrev pub whole : ℕ → Float
whole n = nearest_to n

abbrev pub many : {A : Type 0} → ℕ → A → List A
many zero x = []
many (suc n) x = x ∷ many n x

-- n floats whose patterns are b, b + 1, ..
abbrev pub counted : ℕ → ℕ → List Float
counted zero b = []
counted (suc n) b = pattern b ∷ counted n (suc b)

-- a matrix, and its patterns row by row
abbrev matrix : Float → Float → Float → Float → List (List Float)
matrix a b c d = (a ∷ b ∷ []) ∷ (c ∷ d ∷ []) ∷ []

abbrev entries : List (List Float) → List ℕ
entries [] = []
entries (row ∷ rows) = map bits row ++ entries rows

-- ---- what is taken from one node

-- with a velocity, a psi momentum and a psi mass, by a particle at a place: v, G, p and D
abbrev from : Float → List Float → List ℕ → List Float → Float → Float → Taken → List ℕ
from h position shift u momentum mass a =
    let b = taken_from h (dir_to_associated_grid_node h position) shift (record { velocity = u; psi_momentum = momentum; psi_mass = mass }) a in
    map bits b.velocity ++ (entries b.gradient ++ (bits b.psi ∷ bits b.divergence ∷ []))

-- h = 1, at (5/4, 3/4): d = (-5/4, -3/4), the weights along x are 1/32, 11/16, 9/32 and along y the same backwards. The node at the shift (0, 1), velocity (2, 4): w = 11/512, dpt =
-- (-5/4, 1/4), inv = 4.
abbrev beside : Float → Float → Taken → List ℕ
beside = from one (pattern 0x3fa00000 ∷ pattern 0x3f400000 ∷ []) (0 ∷ 1 ∷ []) (two ∷ four ∷ [])

-- h = 2 ^ -20, at (h, h). The node at the shift (0, 0): w = 1/64, dpt = (-h, -h), inv = 2 ^ 42.
abbrev corner : Float → Float → Float → List ℕ
corner u momentum mass = from (pattern 0x35800000) (pattern 0x35800000 ∷ pattern 0x35800000 ∷ []) (0 ∷ 0 ∷ []) (u ∷ none ∷ []) momentum mass (nothing (none ∷ none ∷ []))

abbrev ones : Taken
ones = record { velocity = one ∷ one ∷ []; gradient = matrix one one one one; psi = one; divergence = one }

-- ---- the first half

-- v = (2, -2), with G, p and D
abbrev gained : List (List Float) → Float → Float → Taken
gained g p d = record { velocity = two ∷ neg two ∷ []; gradient = g; psi = p; divergence = d }

-- at (1, 2), with F, phase, crack factor, threshold, and (4, 8) for a kinematic velocity
abbrev body : List (List Float) → Float → Float → Float → Bool → Bool → Body
body f phase crack threshold kinematic fluid =
    record {
      position = one ∷ two ∷ [];
      deformation = f;
      phase = phase;
      crack = crack;
      threshold = threshold;
      kinematic = kinematic;
      kinematic_velocity = four ∷ whole 8 ∷ [];
      fluid = fluid;
    }

-- dt = 2, G = (1 0, 2 3), D = 3, F = (1 2, 3 4): x, v, G, F, phase
abbrev after : Bool → Bool → List ℕ
after kinematic fluid =
    let r = moved false one two (gained (matrix one none two (whole 3)) none (whole 3)) (body (matrix one two (whole 3) four) one none none kinematic fluid) in
    map bits r.position ++ (map bits r.velocity ++ (entries r.gradient ++ (entries r.deformation ++ (bits r.phase ∷ []))))

-- F of a particle with F00 = f and the rest 0, where G00 = D = g and the rest 0
abbrev stretched : Float → Float → Float → Bool → List ℕ
stretched dt g f fluid = entries (moved false one dt (gained (matrix g none none none) none g) (body (matrix f none none none) one none none false fluid)).deformation

-- the phase that is left of one
abbrev phase_left : Bool → Float → Float → Float → Float → Float → ℕ
phase_left modified h p crack threshold phase =
    bits (moved modified h one (gained (matrix none none none none) p none) (body (matrix none none none none) phase crack threshold false false)).phase

-- h = 1/2, factor 2 and p = 3: (factor·h)·p = 3
abbrev three : Bool → Float → ℕ
three modified threshold = phase_left modified half (whole 3) two threshold one

-- ---- the second half

abbrev model : Float → Float → Bool → Given
model density energy failed = record { density = density; energy = energy; failed = failed }

-- v = (1, -2), G = (1 2, 3 4), F = (f 2, 3 4), with a phase and psi, m 3
abbrev state : Float → Float → Float → Bool → Bool → Bool → State
state f phase psi failed static fluid =
    record {
      velocity = one ∷ neg two ∷ [];
      gradient = matrix one two (whole 3) four;
      deformation = matrix f two (whole 3) four;
      phase = phase;
      psi = psi;
      mass = whole 3;
      failed = failed;
      static = static;
      fluid = fluid;
    }

-- v, G, F, phase, psi, parameter1, parameter2, and 1 if it failed
abbrev settles : Given → State → List ℕ
settles given q =
    let r = settled given q in
    map bits r.velocity
    ++ (entries r.gradient ++ (entries r.deformation ++ (bits r.phase ∷ bits r.psi ∷ bits r.parameter1 ∷ bits r.parameter2 ∷ cond r.failed 1 0 ∷ [])))

-- density 1, energy 1, no failure, of a particle with F00 = 1, phase 1, psi 2
abbrev flagged : Float → Bool → Bool → Bool → List ℕ
flagged density failed static fluid = settles (model density one false) (state one one two failed static fluid)

-- whether a particle with F00 = f fails
abbrev broken : Bool → Float → Bool
broken fluid f = (settled (model one one false) (state f one two false false fluid)).failed

-- psi and parameter1, from psi and energy
abbrev raised : Float → Float → List ℕ
raised psi energy = let r = settled (model one energy false) (state one one psi false false false) in bits r.psi ∷ bits r.parameter1 ∷ []

-- ---- in the plane

-- a particle each of whose numbers has a pattern of its own, from 1 on
abbrev pub marked : List ℕ → Particle
marked words = particle_form.make (counted 26 0x3f800000) words

abbrev pub shown : Particle → List ℕ × List ℕ
shown q = (map bits (particle_form.floats_of q), particle_form.words_of q)

-- ---- calls

-- the flags of three particles: all off, and one of the second's on 2
abbrev off : List ℕ
off = many 12 0

abbrev flag_of_second : List ℕ
flag_of_second = many 7 0 ++ (2 ∷ many 4 0)

-- their numbers: all 1, with a NaN as the last of the first, and of the second
abbrev clean : List Float
clean = many 78 one

abbrev nan_of_first : List Float
nan_of_first = many 25 one ++ (nan ∷ many 52 one)

abbrev nan_of_second : List Float
nan_of_second = many 51 one ++ (nan ∷ many 26 one)

-- what is given for them, without a fault
abbrev good : Store
good = store (many 6 one) (many 3 0)

-- and with energy 2 of the first, no density of the second, and a failure of the third
abbrev lost : Store
lost = store (one ∷ two ∷ none ∷ many 3 one) (0 ∷ 0 ∷ 1 ∷ [])

-- what a call of the first half for two particles answers, with so many floats of nodes
abbrev asked : Float → ℕ → List ℕ → ℕ → Answer
asked dt modified words nf = first_check one dt modified 1 (0 ∷ []) (0 ∷ 2 ∷ []) 2 (store (many 52 one) words) nf 16

pub record Values : Type 0 where
  -- v = (11/256, 11/128), G = (-55/256 11/256, -55/128 11/128), p = (11/512·3)·(1/2), D = (11/512·(-3/2))·4; and the same added to ones
  pub node : beside (whole 3) two (nothing (none ∷ none ∷ [])) ≡ 0x3d300000 ∷ 0x3db00000 ∷ 0xbe5c0000 ∷ 0x3d300000 ∷ 0xbedc0000 ∷ 0x3db00000 ∷ 0x3d040000 ∷ 0xbe040000 ∷ []
  pub added : beside (whole 3) two ones ≡ 0x3f858000 ∷ 0x3f8b0000 ∷ 0x3f490000 ∷ 0x3f858000 ∷ 0x3f120000 ∷ 0x3f8b0000 ∷ 0x3f842000 ∷ 0x3f5f0000 ∷ []
  -- psi mass 0 or -0: inverse 0, and p stays 1, unless the momentum is infinite
  pub massless : map (λ (mass : Float). beside (whole 3) mass ones) (none ∷ neg none ∷ []) ≡ many 2 (0x3f858000 ∷ 0x3f8b0000 ∷ 0x3f490000 ∷ 0x3f858000 ∷ 0x3f120000 ∷ 0x3f8b0000 ∷ 0x3f800000 ∷ 0x3f5f0000 ∷ [])
  pub stray : beside (inf false) none ones ≡ 0x3f858000 ∷ 0x3f8b0000 ∷ 0x3f490000 ∷ 0x3f858000 ∷ 0x3f120000 ∷ 0x3f8b0000 ∷ 0x7fc00000 ∷ 0x3f5f0000 ∷ []
  -- u = (2 ^ 106, 0), psi momentum 2 ^ 127, psi mass 1/2: (w·inv)·u passes the greatest f32, (w·(u·dpt))·inv = -(2 ^ 122) and (w·2 ^ 127)·2 = 2 ^ 122 do not
  pub greatest : corner (pattern 0x74800000) (pattern 0x7f000000) half ≡ 0x71800000 ∷ 0 ∷ 0xff800000 ∷ 0xff800000 ∷ 0 ∷ 0 ∷ 0x7c800000 ∷ 0xfc800000 ∷ []
  -- u = (2 ^ -129, 0): G00 = (2 ^ 36·2 ^ -129)·(-h), and w·(u·dpt) = -(2 ^ -155) is a zero; 41·inverse(41) is the f32 below 1
  pub least : corner (pattern 0x00100000) (whole 2624) (whole 41) ≡ 0x00004000 ∷ 0 ∷ 0x87000000 ∷ 0x87000000 ∷ 0 ∷ 0 ∷ 0x3f7fffff ∷ 0 ∷ []
  -- u = (2 ^ -149, 0), the least f32: w·u is a zero, and G00 = ((w·inv)·u)·(-h) = -(2 ^ -133) is none
  pub smallest : corner (pattern 1) none none ≡ 0 ∷ 0 ∷ 0x80010000 ∷ 0x80010000 ∷ 0 ∷ 0 ∷ 0 ∷ 0 ∷ []
  -- dt = 2, a solid: x = (1 + 4, 2 - 4), F + (2 0, 4 6)·F = (3 6, 25 36), all of it from the old F
  pub solid : after false false ≡ 0x40a00000 ∷ 0xc0000000 ∷ 0x40000000 ∷ 0xc0000000 ∷ 0x3f800000 ∷ 0 ∷ 0x40000000 ∷ 0x40400000 ∷ 0x40400000 ∷ 0x40c00000 ∷ 0x41c80000 ∷ 0x42100000 ∷ 0x3f800000 ∷ []
  -- a fluid: F00 = 1 + 6·1, and F00 alone
  pub fluid : after false true ≡ 0x40a00000 ∷ 0xc0000000 ∷ 0x40000000 ∷ 0xc0000000 ∷ 0x3f800000 ∷ 0 ∷ 0x40000000 ∷ 0x40400000 ∷ 0x40e00000 ∷ 0x40000000 ∷ 0x40400000 ∷ 0x40800000 ∷ 0x3f800000 ∷ []
  -- kinematic: v = (4, 8), x = (1 + 8, 2 + 16); G and F as without
  pub kinematic : after true false ≡ 0x41100000 ∷ 0x41900000 ∷ 0x40800000 ∷ 0x41000000 ∷ 0x3f800000 ∷ 0 ∷ 0x40000000 ∷ 0x40400000 ∷ 0x40400000 ∷ 0x40c00000 ∷ 0x41c80000 ∷ 0x42100000 ∷ 0x3f800000 ∷ []
  -- G·dt and D·dt come first: F00 = 2 ^ 40 + (2 ^ 100·2 ^ -20)·2 ^ 40, where G·F would be infinite, and 2 ^ 40 + (2 ^ -100·2 ^ 100)·2 ^ 40, where dt·F would be
  pub before : (map (stretched (pattern 0x35800000) (pattern 0x71800000) (pattern 0x53800000)) (false ∷ true ∷ []) ≡ many 2 (0x7b800000 ∷ 0 ∷ 0 ∷ 0 ∷ []))
      × (map (stretched (pattern 0x71800000) (pattern 0x0d800000) (pattern 0x53800000)) (false ∷ true ∷ []) ≡ many 2 (0x54000000 ∷ 0 ∷ 0 ∷ 0 ∷ []))
  -- modified eigenerosion, a threshold just below 3, of 3, just above; and switched off
  pub eroded : map (three true) (pattern 0x403fffff ∷ whole 3 ∷ pattern 0x40400001 ∷ []) ≡ 0 ∷ 0x3f800000 ∷ 0x3f800000 ∷ []
  pub kept : three false (pattern 0x403fffff) ≡ 0x3f800000
  -- factor 0 or -0, threshold -1: nothing, though 0 is above it
  pub uncracked : map (λ (crack : Float). phase_left true half (whole 3) crack (neg one) one) (none ∷ neg none ∷ []) ≡ 0x3f800000 ∷ 0x3f800000 ∷ []
  -- phase 0, -0, -1: nothing either
  pub gone : map (phase_left true half (whole 3) two none) (none ∷ neg none ∷ neg one ∷ []) ≡ 0 ∷ 0x80000000 ∷ 0xbf800000 ∷ []
  -- factor·h comes first: 2 ^ 127·2 ^ 20 is above the greatest f32, whatever p = 2 ^ -20 makes of it; with p = 0 it is a NaN, above nothing
  pub energy : map (λ (p : Float). phase_left true (pattern 0x49800000) p (pattern 0x7f000000) (pattern 0x7f7fffff) one) (pattern 0x35800000 ∷ none ∷ []) ≡ 0 ∷ 0x3f800000 ∷ []
  -- the second half, density 1 and -1: nothing but psi = max(2, 1), parameter1 = 2·3, parameter2 = 3
  pub sound : map (λ (density : Float). flagged density false false false) (one ∷ neg one ∷ []) ≡ many 2 (0x3f800000 ∷ 0xc0000000 ∷ 0x3f800000 ∷ 0x40000000 ∷ 0x40400000 ∷ 0x40800000 ∷ 0x3f800000 ∷ 0x40000000 ∷ 0x40400000 ∷ 0x40800000 ∷ 0x3f800000 ∷ 0x40000000 ∷ 0x40c00000 ∷ 0x40400000 ∷ 0 ∷ [])
  -- static: v and G zero
  pub static : flagged one false true false ≡ 0 ∷ 0 ∷ 0 ∷ 0 ∷ 0 ∷ 0 ∷ 0x3f800000 ∷ 0x40000000 ∷ 0x40400000 ∷ 0x40800000 ∷ 0x3f800000 ∷ 0x40000000 ∷ 0x40c00000 ∷ 0x40400000 ∷ 0 ∷ []
  -- density 0 or -0, and one that failed already: F identity, G zero, v as it was; both: v zero too
  pub failed : (flagged none false false false ∷ flagged (neg none) false false false ∷ flagged one true false false ∷ [])
      ≡ many 3 (0x3f800000 ∷ 0xc0000000 ∷ 0 ∷ 0 ∷ 0 ∷ 0 ∷ 0x3f800000 ∷ 0 ∷ 0 ∷ 0x3f800000 ∷ 0x3f800000 ∷ 0x40000000 ∷ 0x40c00000 ∷ 0x40400000 ∷ 1 ∷ [])
  pub failed_static : flagged none false true true ≡ 0 ∷ 0 ∷ 0 ∷ 0 ∷ 0 ∷ 0 ∷ 0x3f800000 ∷ 0 ∷ 0 ∷ 0x3f800000 ∷ 0x3f800000 ∷ 0x40000000 ∷ 0x40c00000 ∷ 0x40400000 ∷ 1 ∷ []
  -- F00 of 1.0e4, just above, -1.0e4, just below; of a fluid
  pub huge : map (broken false) (whole 10000 ∷ pattern 0x461c4001 ∷ neg (whole 10000) ∷ pattern 0xc61c4001 ∷ []) ≡ false ∷ true ∷ false ∷ true ∷ []
  pub huge_fluid : map (broken true) (pattern 0x461c4001 ∷ pattern 0xc61c4001 ∷ []) ≡ false ∷ false ∷ []
  -- psi 2, energy 1 and 5: psi = 2 and 5, parameter1 = 6 and 15; of two zeros +0
  pub raising : map (raised two) (one ∷ whole 5 ∷ []) ≡ (0x40000000 ∷ 0x40c00000 ∷ []) ∷ (0x40a00000 ∷ 0x41700000 ∷ []) ∷ []
  pub zeros : (raised (neg none) (neg none) ∷ raised none (neg none) ∷ raised (neg none) none ∷ []) ≡ many 3 (0 ∷ 0 ∷ [])
  -- a given failure: no phase, whatever it was, and no more
  pub told : map (λ (phase : Float). settles (model one one true) (state one phase two false false false)) (one ∷ neg one ∷ [])
      ≡ many 2 (0x3f800000 ∷ 0xc0000000 ∷ 0x3f800000 ∷ 0x40000000 ∷ 0x40400000 ∷ 0x40800000 ∷ 0x3f800000 ∷ 0x40000000 ∷ 0x40400000 ∷ 0x40800000 ∷ 0 ∷ 0x40000000 ∷ 0x40c00000 ∷ 0x40400000 ∷ 0 ∷ [])
  -- each number in its field. First half, a fluid with D = 0: x = (2, 3), v, G = (5 6, 7 8), and all else as it was
  pub first_fields : shown (advanced false one one (record { velocity = one ∷ two ∷ []; gradient = matrix (whole 5) (whole 6) (whole 7) (whole 8); psi = none; divergence = none }) (marked (1 ∷ 0 ∷ 1 ∷ 1 ∷ [])))
      ≡ (0x40000000 ∷ 0x40400000 ∷ 0x3f800000 ∷ 0x40000000 ∷ 0x40a00000 ∷ 0x40c00000 ∷ 0x40e00000 ∷ 0x41000000 ∷ map bits (counted 18 0x3f800008), 1 ∷ 0 ∷ 1 ∷ 1 ∷ [])
  -- second half, nothing to be done but the parameters: 22 is psi·m = 1 + 28·2 ^ -23, rounded, and 23 is m
  pub second_fields : shown (finished (model one one false) (marked (0 ∷ 1 ∷ 1 ∷ 0 ∷ [])))
      ≡ (map bits (counted 22 0x3f800000) ++ (0x3f80001c ∷ 0x3f80000c ∷ 0x3f800018 ∷ 0x3f800019 ∷ []), 0 ∷ 1 ∷ 1 ∷ 0 ∷ [])
  -- and all to be done: static, no density, a given failure, energy 2
  pub all_fields : shown (finished (model none two true) (marked (0 ∷ 1 ∷ 0 ∷ 1 ∷ [])))
      ≡ (
        0x3f800000 ∷ 0x3f800001 ∷ 0 ∷ 0 ∷ 0 ∷ 0 ∷ 0 ∷ 0 ∷ 0x3f800008 ∷ 0x3f800009 ∷ 0x3f80000a ∷ 0x3f80000b ∷ 0x3f80000c ∷ 0x3f80000d ∷ 0 ∷ 0x3f80000f ∷ 0x40000000
            ∷ 0x3f800000 ∷ 0 ∷ 0 ∷ 0x3f800000 ∷ 0x3f800015 ∷ 0x4000000c ∷ 0x3f80000c ∷ 0x3f800018 ∷ 0x3f800019 ∷ [],
        1 ∷ 1 ∷ 0 ∷ 1 ∷ [],
      )
  -- the whole second half: the first of three particles has energy 2, the second no density, the third a given failure
  pub second : (second_check 3 (store clean off) lost ≡ done)
      × (map bits (second_half lost 3 (store clean off)).floats
      ≡ map bits (many 16 one ++ (two ∷ many 5 one ++ (two ∷ many 7 one ++ (many 4 none ++ (many 10 one ++ (none ∷ none ∷ many 20 one ++ (none ∷ many 11 one))))))))
      × ((second_half lost 3 (store clean off)).words ≡ many 4 0 ++ (1 ∷ many 7 0))
  -- refusals: a flag of a later particle ahead of a NaN of an earlier; in 4 and in 5 the particles ahead of what is given; 4 of that ahead of 5 of the particles; its index the particle's
  pub flags_first : records_check 3 (store nan_of_first flag_of_second) good ≡ refusal Code 1
  pub particles_first : (records_check 3 (store clean flag_of_second) (store (many 6 one) (2 ∷ 0 ∷ 0 ∷ [])) ≡ refusal Code 1) × (records_check 3 (store nan_of_second off) (store (nan ∷ many 5 one) (many 3 0)) ≡ refusal NotFinite 1)
  pub given_flags : records_check 3 (store nan_of_first off) (store (many 6 one) (0 ∷ 0 ∷ 2 ∷ [])) ≡ refusal Code 2
  pub given_numbers : (records_check 3 (store clean off) (store (many 3 one ++ (nan ∷ many 2 one)) (many 3 0)) ≡ refusal NotFinite 1)
      × (records_check 3 (store clean off) (store (many 4 one ++ (inf true ∷ one ∷ [])) (many 3 0)) ≡ refusal NotFinite 2)
  -- lengths ahead of all: of the particles, of what is given, and of a count over its limit
  pub lengths_first : map (λ (c : ℕ × Store × Store). second_check c.0 c.1 c.2)
      ((3, store (many 77 one) flag_of_second, good) ∷ (3, store clean flag_of_second, store (many 7 one) (many 3 0)) ∷ (3, store clean flag_of_second, store (many 6 one) (many 2 0)) ∷ (65537, store clean off, good) ∷ (3, store clean flag_of_second, good) ∷ [])
      ≡ refusal Length 0 ∷ refusal Length 0 ∷ refusal Length 0 ∷ refusal Length 0 ∷ refusal Code 1 ∷ []
  -- of the first half: modified eigenerosion 2 ahead of a flag of the second particle, behind a bad dt, and that behind a length
  pub own_first : (asked one 2 (many 7 0 ++ (2 ∷ [])) 112 ≡ refusal Code 0) × (asked one 1 (many 7 0 ++ (2 ∷ [])) 112 ≡ refusal Code 1) × (asked none 2 (many 8 0) 112 ≡ refusal Setting 0) × (asked none 2 (many 8 0) 111 ≡ refusal Length 0)

pub values : Values
unfolding taken_from moved fails settled advanced finished second_change changes second_half first_check records_check second_check inv_d eval_all precompute_weights round_away inverse maximum magnitude hit run gather Refusals.first_of records dir_to_associated_grid_node finite flags numbers good_width good_step particle_at particles bad_flag not_finite judged first_particle placed checked is_nan lt le eq ne sub mul div of_bits to_bits of_int
values =
    record {
      node = refl;
      added = refl;
      massless = refl;
      stray = refl;
      greatest = refl;
      least = refl;
      smallest = refl;
      solid = refl;
      fluid = refl;
      kinematic = refl;
      before = (refl, refl);
      eroded = refl;
      kept = refl;
      uncracked = refl;
      gone = refl;
      energy = refl;
      sound = refl;
      static = refl;
      failed = refl;
      failed_static = refl;
      huge = refl;
      huge_fluid = refl;
      raising = refl;
      zeros = refl;
      told = refl;
      first_fields = refl;
      second_fields = refl;
      all_fields = refl;
      second = (refl, refl, refl);
      flags_first = refl;
      particles_first = (refl, refl);
      given_flags = refl;
      given_numbers = (refl, refl);
      lengths_first = refl;
      own_first = (refl, refl, refl, refl);
    }
