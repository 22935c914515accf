-- Memory of a fixed size keeps the records that it is given, one behind the other, as long as it has room for all of them. Assumes nothing.
use Rattle.std.proofs.Common.{◌≡◌, refl, sym, ◌∙◌, ⊎_elim, List, [], ◌∷◌, ◌++◌, append_assoc, append-nil, ℕ, suc, ◌+◌, ◌*◌, ◌≤◌, ◌<◌, min, add-zero, suc-mul, mul-one, add-one, arith, length, take, set, length-append, length-set, take-suc-set, lt-ltb, le-ltb}
use Rattle.std.proofs.Math.Seq.{append_snoc}
use Rattle.laws.specs.Store.{behind, write_from, write}
use Rattle.laws.proofs.Rows.{lt_or_ge, behind_is, stretch}
use Rattle.laws.proofs.Records.{put_holds}
use Rattle.grid.specs.Table.{words_per_range}
use Rattle.particles.specs.Particles.{floats_per_particle, words_per_particle, particle_form, put_particle}
use Rattle.listing.specs.Bench.{region_of, particle_of, ids_of, ranges_of, particle_floats_of, particle_words_of, kept_regions, kept_particles}
use Rattle.listing.specs.Feeding.{Memory, Sized, one_more, with_region, with_particle}

-- what is written stands behind what stood in front of it
take_write : {A : Type 0} (l : List A) (b o : ℕ) (vs : List A) → b + o + length vs ≤ length l → take (b + o + length vs) (write_from l b o vs) ≡ take (b + o) l ++ vs
take_write l b o [] h = rw (add-zero (b + o), append-nil)
take_write l b o (v ∷ vs) h =
    let e : b + o + suc (length vs) ≡ b + suc o + length vs = omega arith in
    let f : b + suc o ≡ suc (b + o) = omega arith in
    rw (e, take_write (set l (behind b o) v) b (suc o) vs (rw length-set (omega arith)), f, behind_is, take-suc-set l (b + o) v (omega arith)) (append_snoc (take (b + o) l) v vs)

-- Memory begins with all of the records, w entries each, if they are not more than it keeps
abbrev pub Keeps : {A : Type 0} → ℕ → ℕ → (List (List ℕ) → List A) → List (List ℕ) → List A → Type 0
Keeps kept w all xs l = length xs ≤ kept → take (length xs * w) l ≡ all xs

module _
    {A : Type 0} (kept w : ℕ) (all : List (List ℕ) → List A) (one : List ℕ → List A)
    (none : all [] ≡ []) (more : (x : List ℕ) (xs : List (List ℕ)) → all (x ∷ xs) ≡ one x ++ all xs) (long : (x : List ℕ) → length (one x) ≡ w) where
  -- a record more, at the end
  all_last : (xs : List (List ℕ)) (x : List ℕ) → all (xs ++ (x ∷ [])) ≡ all xs ++ one x
  all_last [] x = more x [] ∙ rw (none, append-nil)
  all_last (y ∷ xs) x = more y (xs ++ (x ∷ [])) ∙ rw (all_last xs x, more y xs) (sym (append_assoc (one y) (all xs) (one x)))

  keep_more : (xs : List (List ℕ)) (x : List ℕ) (l : List A) → length l ≡ kept * w → length xs < kept → Keeps kept w all xs l
      → Keeps kept w all (xs ++ (x ∷ [])) (write l (length xs * w) (one x))
  keep_more xs x l s h keeps u =
      let e : length (xs ++ (x ∷ [])) * w ≡ length xs * w + 0 + length (one x) = rw (length-append, add-one, suc-mul, long) (omega arith) in
      rw (e, take_write l (length xs * w) 0 (one x) (omega (arith, stretch w (length xs) kept h, long x)), all_last, add-zero, keeps (omega arith))

-- what a reader keeps of the `r` and `p` lines that it has read
pub record Kept (m : Memory) (regions particles : ℕ) (rs ps : List (List ℕ)) : Type 0 where
  pub sized : Sized m
  pub regions_told : regions ≡ min (length rs) (kept_regions + 1)
  pub particles_told : particles ≡ min (length ps) (kept_particles + 1)
  pub ids : Keeps kept_regions 1 ids_of rs m.ids
  pub ranges : Keeps kept_regions words_per_range ranges_of rs m.ranges
  pub floats : Keeps kept_particles floats_per_particle particle_floats_of ps m.particles.floats
  pub words : Keeps kept_particles words_per_particle particle_words_of ps m.particles.words

module _ (m : Memory) (n k : ℕ) (rs ps : List (List ℕ)) (vs : List ℕ) (h : Kept m n k rs ps) where
  pub region_more : Kept (with_region m n (region_of vs)) (one_more kept_regions n) k (rs ++ (vs ∷ [])) ps
  unfolding with_region
  region_more =
      let e = length-append rs (vs ∷ []) in
      ⊎_elim
      (λ (u : n < kept_regions).
      let told : n ≡ length rs = omega arith in
      rw (lt-ltb n kept_regions u, told)
      (record {
        sized = record { line = h.sized.line; ids = simp length-set h.sized.ids; ranges = simp length-set h.sized.ranges; particles = h.sized.particles };
        regions_told = omega arith;
        particles_told = h.particles_told;
        ids = rw (mul-one (length rs)) at (keep_more {A = ℕ} kept_regions 1 ids_of (λ x. (region_of x).id ∷ []) refl (λ x xs. refl) (λ x. refl) rs vs m.ids (omega arith) (omega arith) h.ids);
        ranges = keep_more kept_regions words_per_range ranges_of (λ x. (region_of x).start ∷ (region_of x).count ∷ []) refl (λ x xs. refl) (λ x. refl) rs vs m.ranges (omega arith) (omega arith) h.ranges;
        floats = h.floats;
        words = h.words;
      }))
      (λ (u : kept_regions ≤ n).
      rw (le-ltb n kept_regions u)
      (record {
        sized = h.sized;
        regions_told = omega arith;
        particles_told = h.particles_told;
        ids = λ v. absurd (omega arith);
        ranges = λ v. absurd (omega arith);
        floats = h.floats;
        words = h.words;
      }))
      (lt_or_ge n kept_regions)

  pub particle_more : Kept (with_particle m k (particle_of vs)) n (one_more kept_particles k) rs (ps ++ (vs ∷ []))
  unfolding with_particle put_particle
  particle_more =
      let e = length-append ps (vs ∷ []) in
      ⊎_elim
      (λ (u : k < kept_particles).
      let told : k ≡ length ps = omega arith in
      rw (lt-ltb k kept_particles u, told)
      (record {
        sized = record { line = h.sized.line; ids = h.sized.ids; ranges = h.sized.ranges; particles = put_holds particle_form m.particles kept_particles (length ps) (particle_of vs) h.sized.particles (omega arith) };
        regions_told = h.regions_told;
        particles_told = omega arith;
        ids = h.ids;
        ranges = h.ranges;
        floats = keep_more kept_particles floats_per_particle particle_floats_of (λ x. particle_form.floats_of (particle_of x)) refl (λ x xs. refl) (λ x. refl) ps vs m.particles.floats h.sized.particles.floats_long (omega arith) h.floats;
        words = keep_more kept_particles words_per_particle particle_words_of (λ x. particle_form.words_of (particle_of x)) refl (λ x xs. refl) (λ x. refl) ps vs m.particles.words h.sized.particles.words_long (omega arith) h.words;
      }))
      (λ (u : kept_particles ≤ k).
      rw (le-ltb k kept_particles u)
      (record {
        sized = h.sized;
        regions_told = h.regions_told;
        particles_told = omega arith;
        ids = h.ids;
        ranges = h.ranges;
        floats = λ v. absurd (omega arith);
        words = λ v. absurd (omega arith);
      }))
      (lt_or_ge k kept_particles)
