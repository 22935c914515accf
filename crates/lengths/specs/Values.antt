-- The definitions on values that can be followed by hand. Assumes nothing.
use Rattle.grid.specs.Answers.{done, refusal}
use Rattle.std.specs.Prelude.{true, false, List, [], ◌∷◌, map, ◌≡◌, refl, ℕ, Float, length, Ok}
use Rattle.std.specs.Float.{nan, inf, binary32}
use Rattle.std.specs.Float.Ieee.{neg, sub, div, lt, le, of_bits, of_int}
use Rattle.numeric.specs.Bits.{none, half, three_quarters, one, two}
use Rattle.grid.specs.Table.{finite}
use Rattle.grid.specs.declared.Rule.TheVariants.{Length, Setting, Code}
use Rattle.lengths.specs.Lengths.{OrRefused, refused_by, ended, took, min_of, allowed, raised, walk, step_check, step_lengths, min_check, min_dt, substep_check, substep, taken, less, driven, driven_lengths, end_number, step_number, step_index, step_count, step_remaining, step_end, min_number, min_index, min_length, substep_number, substep_index, substep_length, substep_remaining}
use Rattle.lengths.specs.declared.End.TheVariants.{Finished, OneSubstep, NoProposal}
use Rattle.lengths.specs.declared.Lengths.{Lengths}

abbrev f32 : ℕ → Float
f32 b = of_bits binary32 b

-- 1/4, 1/8, -0, the least f32 and the f32 above 1, above 1/2
abbrev quarter : Float
quarter = f32 0x3e800000

abbrev eighth : Float
eighth = f32 0x3e000000

abbrev minus_none : Float
minus_none = f32 0x80000000

abbrev least : Float
least = f32 1

abbrev above_one : Float
above_one = f32 0x3f800001

abbrev above_half : Float
above_half = f32 0x3f000001

-- a step of a total in 4 substeps, each of at most 1/2, with these proposals; and where one substep is asked for
abbrev step_of : Float → List Float → OrRefused Lengths
step_of total proposals = step_lengths total half 4 0 (length proposals) proposals

abbrev one_of : Float → List Float → OrRefused Lengths
one_of total proposals = step_lengths total half 4 1 (length proposals) proposals

pub record Values : Type 0 where
  -- 1/4, and the f32 nearest to 1/3; 2^24 + 1 goes down to 2^24 and 2^32 - 1 up to 2^32
  pub least_lengths : map (min_of one) (4 ∷ 3 ∷ 16777217 ∷ 4294967295 ∷ []) ≡ quarter ∷ f32 0x3eaaaaab ∷ f32 0x33800000 ∷ f32 0x2f800000 ∷ []
  -- a proposal at what remains, at the greatest length, and the least f32; just above either, and no number above 0
  pub limits : (allowed one two one ≡ true) × (allowed two one one ≡ true) × (allowed one two least ≡ true) × (allowed one two above_one ≡ false) × (allowed two one above_one ≡ false)
  pub broken : map (allowed one two) (none ∷ minus_none ∷ neg one ∷ nan ∷ inf false ∷ inf true ∷ []) ≡ false ∷ false ∷ false ∷ false ∷ false ∷ false ∷ []
  pub no_length : (allowed one none least ≡ false) × (allowed one (neg one) least ≡ false)
  -- with 1/4 for min: 1/8 is raised to it, 1/4 and 1/2 are not; where no more than min remains nothing is
  pub raises : (map (raised one quarter) (eighth ∷ quarter ∷ half ∷ []) ≡ quarter ∷ quarter ∷ half ∷ []) × (raised quarter quarter eighth ≡ eighth) × (raised eighth quarter least ≡ least)
  -- proposals of min; above it; of 1/8: these are raised three times, and two more are taken as they are, so that there are more than 4
  pub steps : (step_of one (quarter ∷ quarter ∷ quarter ∷ quarter ∷ []) ≡ ended Finished 4 none) × (step_of one (half ∷ half ∷ []) ≡ ended Finished 2 none)
      × (step_of one (eighth ∷ eighth ∷ eighth ∷ eighth ∷ eighth ∷ []) ≡ ended Finished 5 none) × (step_of one (eighth ∷ eighth ∷ eighth ∷ eighth ∷ []) ≡ ended NoProposal 4 eighth)
  -- no proposal, and too few
  pub short : (step_of one [] ≡ ended NoProposal 0 one) × (step_of one (half ∷ []) ≡ ended NoProposal 1 half)
  -- proposals past the end are not looked at: behind the last, behind the one, and where nothing remains
  pub unlooked : (step_of one (half ∷ half ∷ nan ∷ []) ≡ ended Finished 2 none) × (one_of one (half ∷ nan ∷ []) ≡ ended OneSubstep 1 half) × (step_of none (nan ∷ []) ≡ ended Finished 0 none)
  -- a total of 0 or less finishes with what it was
  pub nothing : (step_of none [] ≡ ended Finished 0 none) × (step_of minus_none [] ≡ ended Finished 0 minus_none) × (step_of (neg one) [] ≡ ended Finished 0 (neg one)) × (one_of none [] ≡ ended Finished 0 none)
  -- one substep: it ends the step, or the step is finished by it, or there is none
  pub single : (one_of one (eighth ∷ eighth ∷ []) ≡ ended OneSubstep 1 three_quarters) × (one_of half (half ∷ []) ≡ ended Finished 1 none) × (one_of one [] ≡ ended NoProposal 0 one)
  -- proposals that break their rule, with their index: at first, and behind one of 1/2; too long for what remains (1/4) or for a substep (1/2)
  pub refusals : (step_of one (nan ∷ []) ≡ refused_by Code 0) × (map (λ (p : Float). step_of one (half ∷ p ∷ [])) (nan ∷ none ∷ neg one ∷ inf false ∷ []) ≡ refused_by Code 1 ∷ refused_by Code 1 ∷ refused_by Code 1 ∷ refused_by Code 1 ∷ [])
      × (step_of one (half ∷ quarter ∷ half ∷ []) ≡ refused_by Code 2) × (step_of one (above_half ∷ []) ≡ refused_by Code 0) × (one_of one (nan ∷ []) ≡ refused_by Code 0)
  -- a length of 2^-25 is lost in the rounding of what remains, and counts
  pub lost : step_lengths one half 4294967295 0 2 (f32 0x33000000 ∷ f32 0x33000000 ∷ []) ≡ ended NoProposal 2 one
  -- 1 before 3, 3 before 4, the call's own in 4 before proposals
  pub order : (step_check nan one 0 2 1 0 ≡ refusal Length 0) × (step_check nan one 0 2 0 0 ≡ refusal Setting 0) × (step_check one one 0 2 0 0 ≡ refusal Code 0)
      × (step_lengths one half 4 2 2 (half ∷ nan ∷ []) ≡ refused_by Code 0) × (step_lengths one half 4 0 2 (nan ∷ []) ≡ refused_by Length 0)
  -- each setting by itself; a total and a greatest length below 0 are accepted
  pub checks : (step_check (inf true) one 4 0 0 0 ≡ refusal Setting 0) × (step_check one (inf false) 4 0 0 0 ≡ refusal Setting 0) × (step_check one one 0 0 0 0 ≡ refusal Code 0)
      × (step_check one one 4 2 0 0 ≡ refusal Code 0) × (step_check one one 4 0 0 1 ≡ refusal Length 0) × (step_check (neg one) (neg one) 1 1 2 2 ≡ done)
  -- the least length of one substep, and of totals of 0 or less; 3 for each total that is not finite, and before 4
  pub least_answers : (min_dt one 1 ≡ Ok one) × (map (λ (t : Float). min_dt t 4) (one ∷ none ∷ minus_none ∷ neg one ∷ []) ≡ map Ok (quarter ∷ none ∷ minus_none ∷ neg quarter ∷ []))
  pub least_refusals : (map (λ (t : Float). min_dt t 4) (nan ∷ inf false ∷ inf true ∷ []) ≡ refused_by Setting 0 ∷ refused_by Setting 0 ∷ refused_by Setting 0 ∷ []) × (min_dt nan 0 ≡ refused_by Setting 0)
      × (map (λ (t : Float). min_dt t 0) (one ∷ none ∷ []) ≡ refused_by Code 0 ∷ refused_by Code 0 ∷ [])
  -- one substep at a time: raised, not raised, and with a min below 0
  pub substeps : (substep one quarter half eighth ≡ took quarter three_quarters) × (substep quarter quarter half eighth ≡ took eighth eighth) × (substep one (neg one) half half ≡ took half half)
  -- 3 before 4, for each of the three; then the proposal
  pub substep_refusals : (substep nan quarter one nan ≡ refused_by Setting 0) × (substep one (inf false) one half ≡ refused_by Setting 0) × (substep one quarter (inf false) half ≡ refused_by Setting 0)
      × (substep one quarter half above_half ≡ refused_by Code 0) × (substep none quarter one least ≡ refused_by Code 0)
  -- the lengths that are subtracted, all and one; none from a refused proposal on; what they leave of 1, where 2^-25 is lost if it comes first
  pub subtractions : (taken false quarter half 0 one (eighth ∷ eighth ∷ eighth ∷ eighth ∷ eighth ∷ []) ≡ quarter ∷ quarter ∷ quarter ∷ eighth ∷ eighth ∷ [])
      × (taken true quarter half 0 one (eighth ∷ eighth ∷ []) ≡ quarter ∷ []) × (taken false quarter half 0 one (half ∷ nan ∷ half ∷ []) ≡ half ∷ []) × (less one (half ∷ eighth ∷ eighth ∷ []) ≡ quarter)
      × (less one (f32 0x33000000 ∷ half ∷ []) ≡ half)
  -- a host's loop: to the end, with its lengths; a proposal's refusal with its index; and 3, had the least length not been finite
  pub driving : (driven false quarter half 0 one (half ∷ eighth ∷ eighth ∷ nan ∷ []) ≡ refused_by Code 3) × (driven true quarter half 0 one (half ∷ nan ∷ []) ≡ ended OneSubstep 1 half)
      × (driven false quarter half 0 one (half ∷ half ∷ nan ∷ []) ≡ ended Finished 2 none) × (driven false (inf false) half 0 one (half ∷ []) ≡ refused_by Setting 0)
  pub driven_lengths_lem : (driven_lengths false quarter half 0 one (half ∷ eighth ∷ eighth ∷ nan ∷ []) ≡ half ∷ quarter ∷ eighth ∷ []) × (driven_lengths true quarter half 0 one (eighth ∷ eighth ∷ []) ≡ quarter ∷ [])
  -- what an answer is in numbers
  pub ends : map end_number (Finished ∷ OneSubstep ∷ NoProposal ∷ []) ≡ 0 ∷ 1 ∷ 2 ∷ []
  pub step_ended : let a = ended OneSubstep 1 half in (step_number a ≡ 0) × (step_index a ≡ 0) × (step_count a ≡ 1) × (step_remaining a ≡ half) × (step_end a ≡ 1)
  pub step_refused : let a = refused_by Code 7 in (step_number a ≡ 4) × (step_index a ≡ 7) × (step_count a ≡ 0) × (step_remaining a ≡ none) × (step_end a ≡ 0)
  pub least_length : let a = Ok quarter in (min_number a ≡ 0) × (min_index a ≡ 0) × (min_length a ≡ quarter)
  pub least_refused : let a = refused_by Code 7 in (min_number a ≡ 4) × (min_index a ≡ 7) × (min_length a ≡ none)
  pub substep_taken : let a = took quarter half in (substep_number a ≡ 0) × (substep_index a ≡ 0) × (substep_length a ≡ quarter) × (substep_remaining a ≡ half)
  pub substep_refused : let a = refused_by Setting 0 in (substep_number a ≡ 3) × (substep_index a ≡ 0) × (substep_length a ≡ none) × (substep_remaining a ≡ none)

pub values : Values
unfolding allowed raised walk step_check step_lengths min_check min_dt substep_check substep taken less driven driven_lengths finite neg sub div lt le of_bits of_int
values =
    record {
      least_lengths = refl;
      limits = (refl, refl, refl, refl, refl);
      broken = refl;
      no_length = (refl, refl);
      raises = (refl, refl, refl);
      steps = (refl, refl, refl, refl);
      short = (refl, refl);
      unlooked = (refl, refl, refl);
      nothing = (refl, refl, refl, refl);
      single = (refl, refl, refl);
      refusals = (refl, refl, refl, refl, refl);
      lost = refl;
      order = (refl, refl, refl, refl, refl);
      checks = (refl, refl, refl, refl, refl, refl);
      least_answers = (refl, refl);
      least_refusals = (refl, refl, refl);
      substeps = (refl, refl, refl);
      substep_refusals = (refl, refl, refl, refl, refl);
      subtractions = (refl, refl, refl, refl, refl);
      driving = (refl, refl, refl, refl);
      driven_lengths_lem = (refl, refl);
      ends = refl;
      step_ended = (refl, refl, refl, refl, refl);
      step_refused = (refl, refl, refl, refl, refl);
      least_length = (refl, refl, refl);
      least_refused = (refl, refl, refl);
      substep_taken = (refl, refl, refl, refl);
      substep_refused = (refl, refl, refl, refl);
    }
