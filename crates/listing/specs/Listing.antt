-- Document 01, "The bench listing": lines, each ended by a line feed: one `w`, then `r`, then `p`; all else is unreadable (empty input: line 0). Definitions, and what is proved of
-- them.
-- Assumes nothing.
use Rattle.std.specs.Prelude.{◌≡◌, Bool, true, false, cond, List, [], ◌∷◌, ◌++◌, ℕ, suc, eqb, Err, None, Ok, Option, Result, Some}
use Rattle.listing.specs.Lines.{float, decimal, line_feed, ended_text, Values, line_of, Fit}

-- ---- the lines that are read, by their letters and the kinds of their fields

-- `w` h dt gx gy
abbrev pub w : ℕ
w = 119

abbrev pub settings_kinds : List ℕ
settings_kinds = float ∷ float ∷ float ∷ float ∷ []

-- `r` id start count
abbrev pub r : ℕ
r = 114

abbrev pub region_kinds : List ℕ
region_kinds = decimal ∷ decimal ∷ decimal ∷ []

-- `p` x y vx vy G00 G01 G10 G11 S00 S01 S10 S11 m V0 phase crack psi failed
abbrev pub p : ℕ
p = 112

abbrev pub particle_kinds : List ℕ
particle_kinds =
    float ∷ float ∷ float ∷ float ∷ float ∷ float ∷ float ∷ float ∷ float ∷ float ∷ float ∷ float ∷ float ∷ float ∷ float ∷ float ∷ float ∷ decimal ∷ []

-- ---- a listing: the values of its lines

pub record Listing : Type 0 where
  pub settings : List ℕ
  pub regions : List (List ℕ)
  pub particles : List (List ℕ)

abbrev pub empty : Listing
empty = record { settings = []; regions = []; particles = [] }

-- its text
abbrev pub lines_text : ℕ → List ℕ → List (List ℕ) → List ℕ
lines_text letter kinds [] = []
lines_text letter kinds (values ∷ rest) = ended_text (letter ∷ []) kinds values ++ lines_text letter kinds rest

abbrev pub listing_text : Listing → List ℕ
listing_text l = ended_text (w ∷ []) settings_kinds l.settings ++ (lines_text r region_kinds l.regions ++ lines_text p particle_kinds l.particles)

-- ---- how a text is read

-- a listing, or the index of the line that cannot be read
abbrev pub Read : Type 0
Read = Result Listing ℕ

abbrev pub is_none : List (List ℕ) → Bool
is_none [] = true
is_none (x ∷ xs) = false

-- a line more, where it is one that may come: what the lines then say; None where it cannot be read
abbrev pub with_settings : Values → Listing → Option Listing
with_settings (Some vs) l = Some (record { settings = vs; regions = l.regions; particles = l.particles })
with_settings None l = None

abbrev pub with_particle : Values → Listing → Option Listing
with_particle (Some vs) l = Some (record { settings = l.settings; regions = l.regions; particles = l.particles ++ (vs ∷ []) })
with_particle None l = None

-- a region where the line is one, and else what the line is besides
abbrev pub with_region : Values → Listing → Option Listing → Option Listing
with_region (Some vs) l other = Some (record { settings = l.settings; regions = l.regions ++ (vs ∷ []); particles = l.particles })
with_region None l other = other

-- the line with index 0 is a `w` line; a later one is an `r` line, if no `p` line came before it, or a `p` line
unfoldable pub line_taken : ℕ → Listing → List ℕ → Option Listing
line_taken k l line =
    let particle = with_particle (line_of p particle_kinds line) l in
    cond (eqb k 0) (with_settings (line_of w settings_kinds line) l)
    (cond (is_none l.particles) (with_region (line_of r region_kinds line) l particle) particle)

-- The text from within the line with index k on: `line` is what stands of that line already, l what the lines before it say. A last line without its line feed cannot be read;
-- nor can an empty text.
abbrev pub ended : ℕ → Listing → List ℕ → Read
ended k l [] = cond (eqb k 0) (Err 0) (Ok l)
ended k l (x ∷ line) = Err k

-- what the text behind a line says, unless that line could not be taken
abbrev pub onward : ℕ → Option Listing → (Listing → Read) → Read
onward k (Some l) rest = rest l
onward k None rest = Err k

unfoldable pub read_from : ℕ → Listing → List ℕ → List ℕ → Read
read_from k l line [] = ended k l line
read_from k l line (b ∷ text) =
    cond (eqb b line_feed) (onward k (line_taken k l line) (λ (m : Listing). read_from (suc k) m [] text)) (read_from k l (line ++ (b ∷ [])) text)

unfoldable pub read_listing : List ℕ → Read
read_listing text = read_from 0 empty [] text

-- ---- what is proved: a text is readable where it is the text of a listing, and reads to that

abbrev pub AllFit : List ℕ → List (List ℕ) → Type 0
AllFit kinds [] = Unit {0}
AllFit kinds (values ∷ rest) = Fit kinds values × AllFit kinds rest

pub record Fits (l : Listing) : Type 0 where
  pub settings : Fit settings_kinds l.settings
  pub regions : AllFit region_kinds l.regions
  pub particles : AllFit particle_kinds l.particles

pub record Laws : Type 0 where
  pub sound : (text : List ℕ) (l : Listing) → read_listing text ≡ Ok l → Fits l × (text ≡ listing_text l)
  pub complete : (l : Listing) → Fits l → read_listing (listing_text l) ≡ Ok l
