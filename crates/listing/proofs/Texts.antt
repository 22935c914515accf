-- What is proved of a listing: its text is read, to it, and a text that is read is the text of what it reads to. Assumes nothing.
use Rattle.std.proofs.Common.{None, Ok, Option, Some, ℕ, zero, suc, ◌≡◌, refl, sym, ◌∙◌, Bool, true, false, cond, List, [], ◌∷◌, ◌++◌, append_assoc, append-nil, arith, length, eqb, eqb-true}
use Rattle.std.proofs.Math.Seq.{append_snoc}
use lib.Dec.{eqb-suc-zero}
use Rattle.fields.specs.Read.{before}
use Rattle.listing.specs.Lines.{line_feed, line_text, ended_text, Values, line_of, Fit}
use Rattle.listing.specs.Listing.{w, settings_kinds, r, region_kinds, p, particle_kinds, Listing, empty, lines_text, listing_text, is_none, with_settings, with_particle, with_region, line_taken, onward, read_from, read_listing, AllFit, Fits, Laws, Read}
use Rattle.listing.proofs.Spelling.{line_feed_lem, line_sound, line_complete}

-- ---- a text that is a listing's

-- the bytes up to a line feed are a line
pub to_feed : (k : ℕ) (l : Listing) (line xs rest : List ℕ) → before line_feed xs ≡ length xs
    → read_from k l line (xs ++ (line_feed ∷ rest)) ≡ onward k (line_taken k l (line ++ xs)) (λ (m : Listing). read_from (suc k) m [] rest)
unfolding read_from before
to_feed k l line [] rest h = rw (append-nil line)
to_feed k l line (x ∷ xs) rest h = go (to_feed k l (line ++ (x ∷ [])) xs rest) (eqb x line_feed) h
  where
    go : (before line_feed xs ≡ length xs → read_from k l (line ++ (x ∷ [])) (xs ++ (line_feed ∷ rest)) ≡ onward k (line_taken k l ((line ++ (x ∷ [])) ++ xs)) (λ (m : Listing). read_from (suc k) m [] rest))
        → (t : Bool) → cond t 0 (suc (before line_feed xs)) ≡ suc (length xs)
        → cond t (onward k (line_taken k l line) (λ (m : Listing). read_from (suc k) m [] (xs ++ (line_feed ∷ rest)))) (read_from k l (line ++ (x ∷ [])) (xs ++ (line_feed ∷ rest)))
        ≡ onward k (line_taken k l (line ++ (x ∷ xs))) (λ (m : Listing). read_from (suc k) m [] rest)
    go more true h = absurd (omega arith)
    go more false h = rw (← append_snoc line x xs) (more (omega arith))

module _ (letter : ℕ) (kinds : List ℕ) (plain : before line_feed (letter ∷ []) ≡ 1) where
  -- a printed line that may come is taken
  read_line : (k : ℕ) (l m : Listing) (values rest : List ℕ) → line_taken k l (line_text (letter ∷ []) kinds values) ≡ Some m
      → read_from k l [] (ended_text (letter ∷ []) kinds values ++ rest) ≡ read_from (suc k) m [] rest
  read_line k l m values rest e =
      let line = line_text (letter ∷ []) kinds values in
      rw (append_snoc line line_feed rest) (to_feed k l [] line rest (line_feed_lem (letter ∷ []) kinds values plain) ∙ rw e)

  module _ (at : List (List ℕ) → Listing)
      (step : (k : ℕ) (done : List (List ℕ)) (values : List ℕ) → Fit kinds values → line_taken (suc k) (at done) (line_text (letter ∷ []) kinds values) ≡ Some (at (done ++ (values ∷ []))))
      (rest : List ℕ) (answer : Read) where
    -- lines of one letter are taken one after the other
    read_lines : (todo done : List (List ℕ)) (k : ℕ) → AllFit kinds todo → ((j : ℕ) → read_from (suc j) (at (done ++ todo)) [] rest ≡ answer)
        → read_from (suc k) (at done) [] (lines_text letter kinds todo ++ rest) ≡ answer
    read_lines [] done k f h = rw (append-nil done) at (h k)
    read_lines (values ∷ todo) done k f h =
        rw (append_assoc (ended_text (letter ∷ []) kinds values) (lines_text letter kinds todo) rest)
        (read_line (suc k) (at done) (at (done ++ (values ∷ []))) values (lines_text letter kinds todo ++ rest) (step k done values f.0)
        ∙ read_lines todo (done ++ (values ∷ [])) (suc k) f.1 (λ j. rw (append_snoc done values todo) (h j)))

region_step : (s : List ℕ) (k : ℕ) (done : List (List ℕ)) (values : List ℕ) → Fit region_kinds values
    → line_taken (suc k) (record { settings = s; regions = done; particles = [] }) (line_text (r ∷ []) region_kinds values)
    ≡ Some (record { settings = s; regions = done ++ (values ∷ []); particles = [] })
unfolding line_taken
region_step s k done values f = rw (eqb-suc-zero k, line_complete r region_kinds values f)

particle_step : (s : List ℕ) (rs : List (List ℕ)) (k : ℕ) (done : List (List ℕ)) (values : List ℕ) → Fit particle_kinds values
    → line_taken (suc k) (record { settings = s; regions = rs; particles = done }) (line_text (p ∷ []) particle_kinds values)
    ≡ Some (record { settings = s; regions = rs; particles = done ++ (values ∷ []) })
unfolding line_taken line_of
particle_step s rs k done values f = rw (eqb-suc-zero k, line_complete p particle_kinds values f) (go (is_none done))
  where
    go : {A : Type 0} {x : A} (t : Bool) → cond t x x ≡ x
    go true = refl
    go false = refl

at_end : (l : Listing) (j : ℕ) → read_from (suc j) l [] [] ≡ Ok l
unfolding read_from
at_end l j = rw (eqb-suc-zero j)

complete : (l : Listing) → Fits l → read_listing (listing_text l) ≡ Ok l
unfolding read_listing line_taken before
complete l f =
    let s = l.settings in
    let rs = l.regions in
    let ps = l.particles in
    let others = lines_text p particle_kinds ps in
    read_line w settings_kinds refl 0 empty (record { settings = s; regions = []; particles = [] }) s (lines_text r region_kinds rs ++ others)
    (rw (line_complete w settings_kinds s f.settings))
    ∙ read_lines r region_kinds refl (λ done. record { settings = s; regions = done; particles = [] }) (region_step s) others (Ok l) rs [] 0 f.regions
    (λ j. rw (← append-nil others)
    (read_lines p particle_kinds refl (λ done. record { settings = s; regions = rs; particles = done }) (particle_step s rs) [] (Ok l) ps [] j f.particles (at_end l)))

-- ---- a text that is read

fit_more : (kinds : List ℕ) (done : List (List ℕ)) (values : List ℕ) → AllFit kinds done → Fit kinds values → AllFit kinds (done ++ (values ∷ []))
fit_more kinds [] values f g = (g, tt)
fit_more kinds (vs ∷ done) values f g = (f.0, fit_more kinds done values f.1 g)

text_more : (letter : ℕ) (kinds : List ℕ) (done : List (List ℕ)) (values : List ℕ)
    → lines_text letter kinds (done ++ (values ∷ [])) ≡ lines_text letter kinds done ++ ended_text (letter ∷ []) kinds values
text_more letter kinds [] values = append-nil (ended_text (letter ∷ []) kinds values)
text_more letter kinds (vs ∷ done) values =
    rw (text_more letter kinds done values, append_assoc (ended_text (letter ∷ []) kinds vs) (lines_text letter kinds done) (ended_text (letter ∷ []) kinds values))

regroup : (a b c d : List ℕ) → a ++ (b ++ (c ++ d)) ≡ (a ++ (b ++ c)) ++ d
regroup a b c d = simp append_assoc

across : (a line : List ℕ) (b : ℕ) (text : List ℕ) → (a ++ (line ++ (b ∷ []))) ++ text ≡ a ++ (line ++ (b ∷ text))
across a line b text = simp append_assoc

-- what the lines before a line with an index say, and their text
abbrev Said : ℕ → Listing → Type 0
Said zero l = l ≡ empty
Said (suc k) l = Fits l

abbrev said_text : ℕ → Listing → List ℕ
said_text zero l = []
said_text (suc k) l = listing_text l

-- what a line more makes of it
abbrev More : List ℕ → List ℕ → Listing → Type 0
More said line m = Fits m × (listing_text m ≡ said ++ (line ++ (line_feed ∷ [])))

module _ (line : List ℕ) (m : Listing) where
  settings_sound : (v : Values) → line_of w settings_kinds line ≡ v → with_settings v empty ≡ Some m → More [] line m
  settings_sound (Some vs) e t =
      let q : record { settings = vs; regions = []; particles = [] } ≡ m = cc in
      let s = line_sound w settings_kinds line vs e in
      rw (← q, s.1) (record { settings = s.0; regions = tt; particles = tt }, append-nil _)
  settings_sound None e t = let z : ◌≡◌ {A = ℕ} 0 1 = cc in absurd (omega arith)

  module _ (l : Listing) (f : Fits l) where
    particle_sound : (v : Values) → line_of p particle_kinds line ≡ v → with_particle v l ≡ Some m → More (listing_text l) line m
    particle_sound (Some vs) e t =
        let q : record { settings = l.settings; regions = l.regions; particles = l.particles ++ (vs ∷ []) } ≡ m = cc in
        let s = line_sound p particle_kinds line vs e in
        rw (← q, s.1) (
          record { settings = f.settings; regions = f.regions; particles = fit_more particle_kinds l.particles vs f.particles s.0 },
          rw (text_more p particle_kinds l.particles vs)
              (regroup (ended_text (w ∷ []) settings_kinds l.settings) (lines_text r region_kinds l.regions) (lines_text p particle_kinds l.particles) (ended_text (p ∷ []) particle_kinds vs)),
        )
    particle_sound None e t = let z : ◌≡◌ {A = ℕ} 0 1 = cc in absurd (omega arith)

    -- no `p` line came before
    region_sound : l.particles ≡ [] → (other : Option Listing) → (other ≡ Some m → More (listing_text l) line m)
        → (v : Values) → line_of r region_kinds line ≡ v → with_region v l other ≡ Some m → More (listing_text l) line m
    region_sound none other else (Some vs) e t =
        let q : record { settings = l.settings; regions = l.regions ++ (vs ∷ []); particles = [] } ≡ m = cc in
        let s = line_sound r region_kinds line vs e in
        rw (← q, s.1, none) (
          record { settings = f.settings; regions = fit_more region_kinds l.regions vs f.regions s.0; particles = tt },
          rw (text_more r region_kinds l.regions vs, append-nil (lines_text r region_kinds l.regions), append-nil (lines_text r region_kinds l.regions ++ ended_text (r ∷ []) region_kinds vs))
              (sym (append_assoc (ended_text (w ∷ []) settings_kinds l.settings) (lines_text r region_kinds l.regions) (ended_text (r ∷ []) region_kinds vs))),
        )
    region_sound none other else None e t = else t

    later_sound : (ps : List (List ℕ)) → l.particles ≡ ps
        → cond (is_none ps) (with_region (line_of r region_kinds line) l (with_particle (line_of p particle_kinds line) l)) (with_particle (line_of p particle_kinds line) l) ≡ Some m
        → More (listing_text l) line m
    later_sound [] e t = region_sound e (with_particle (line_of p particle_kinds line) l) (particle_sound (line_of p particle_kinds line) refl) (line_of r region_kinds line) refl t
    later_sound (vs ∷ ps) e t = particle_sound (line_of p particle_kinds line) refl t

  taken_sound : (k : ℕ) (l : Listing) → Said k l → line_taken k l line ≡ Some m → More (said_text k l) line m
  unfolding line_taken
  taken_sound zero l f t = settings_sound (line_of w settings_kinds line) refl (rw f at t)
  taken_sound (suc k) l f t = later_sound l f l.particles refl (rw (eqb-suc-zero k) at t)

-- from within a line on: the whole text is that of what it reads to
sound_from : (k : ℕ) (l : Listing) (line text : List ℕ) (m : Listing) → Said k l → read_from k l line text ≡ Ok m
    → Fits m × (said_text k l ++ (line ++ text) ≡ listing_text m)
unfolding read_from
sound_from zero l [] [] m f e = let z : ◌≡◌ {A = ℕ} 0 1 = cc in absurd (omega arith)
sound_from (suc k) l [] [] m f e =
    let q : Ok l ≡ Ok m = rw (eqb-suc-zero k) at e in
    let u : l ≡ m = cc in
    rw (← u) (f, append-nil (listing_text l))
sound_from k l (x ∷ line) [] m f e = let z : ◌≡◌ {A = ℕ} 0 1 = cc in absurd (omega arith)
sound_from k l line (b ∷ text) m f e =
    go (sound_from k l (line ++ (b ∷ [])) text m f) (λ n. sound_from (suc k) n [] text m) (eqb b line_feed) refl (line_taken k l line) refl e
  where
    go : (read_from k l (line ++ (b ∷ [])) text ≡ Ok m → Fits m × (said_text k l ++ ((line ++ (b ∷ [])) ++ text) ≡ listing_text m))
        → ((n : Listing) → Fits n → read_from (suc k) n [] text ≡ Ok m → Fits m × (listing_text n ++ text ≡ listing_text m))
        → (t : Bool) → eqb b line_feed ≡ t → (u : Option Listing) → line_taken k l line ≡ u
        → cond t (onward k u (λ (n : Listing). read_from (suc k) n [] text)) (read_from k l (line ++ (b ∷ [])) text) ≡ Ok m
        → Fits m × (said_text k l ++ (line ++ (b ∷ text)) ≡ listing_text m)
    go within next true q (Some n) h e =
        let s = taken_sound line n k l f h in
        let t = next n s.0 e in
        (t.0, rw (eqb-true b line_feed q, ← across (said_text k l) line line_feed text, ← s.1) t.1)
    go within next true q None h e = let z : ◌≡◌ {A = ℕ} 0 1 = cc in absurd (omega arith)
    go within next false q u h e = rw (append_snoc line b text) at (within e)

pub laws : Laws
unfolding read_listing
laws = record { sound = λ text l. sound_from 0 empty [] text l refl; complete = complete }
