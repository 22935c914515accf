-- What a change of every particle leaves, whatever the change: each particle changed once, from what it held before. Assumes nothing.
use Rattle.std.proofs.Common.{◌≡◌, ℕ, ◌<◌, List, sym, refl, ap, ◌∙◌, subst, arith}
use Rattle.std.specs.Prelude.{Float}
use Rattle.laws.specs.Store.{Store, Holds, records, Laws as Kept}
use Rattle.laws.specs.Hits.{run, change_at, changes}
use Rattle.laws.proofs.Records as Records
use Rattle.laws.proofs.Hits as Hits
use Rattle.particles.specs.Particles.{particle_form, particle_at, put_particle, particles, reads, stores}
use Rattle.particles.specs.declared.particle.Particle.{Particle}
use Rattle.gather.specs.Transfer.{advanced, finished}
use Rattle.gather.specs.Gather.{first_change, second_change, first_half, second_half, FirstKeeps, SecondKeeps, Laws}

-- particles are kept as records of every kind are
pub kept : Kept particles
unfolding particles
kept = Records.laws particle_form

module _ (change : ℕ → Particle → Particle) where
  -- a particle that is read, changed and written back is hit
  pub one_change : (p : ℕ) (s : Store) → put_particle s p (change p (particle_at s p)) ≡ run particles (change_at change p) s
  unfolding particle_at put_particle particles records
  one_change p s = sym (Hits.run_one particles (record { at = p; change = change p }) s)

  -- every particle is changed once, from what it held before
  pub each : (s : Store) (n : ℕ) → Holds particle_form s n → (p : ℕ) → p < n → particle_at (run particles (changes change n) s) p ≡ change p (particle_at s p)
  each s n h p l = sym (reads (run particles (changes change n) s) p) ∙ (Hits.laws particles kept).once change s n p ((stores s n).0 h) l ∙ ap (change p) (reads s p)

  -- so it keeps what its change keeps
  pub each_keeps : (Keeps : Particle → Particle → Type 0) → ((p : ℕ) (q : Particle) → Keeps (change p q) q)
      → (s : Store) (n : ℕ) → Holds particle_form s n → (p : ℕ) → p < n → Keeps (particle_at (run particles (changes change n) s) p) (particle_at s p)
  each_keeps Keeps keeps s n h p l = subst (λ (q : Particle). Keeps q (particle_at s p)) (sym (each s n h p l)) (keeps p (particle_at s p))

  pub each_held : (s : Store) (n : ℕ) → Holds particle_form s n → Holds particle_form (run particles (changes change n) s) n
  unfolding changes
  each_held s n h = (stores (run particles (changes change n) s) n).1 (Hits.run_ok particles kept (changes change n) s n ((stores s n).0 h) (Hits.changes_within particles kept change n n (omega arith)))

-- what a half does not name stays
first_keeps : (h dt : Float) (modified : ℕ) (ids : List ℕ) (nodes : Store) (q : Particle) → FirstKeeps (first_change h ids nodes dt modified q) q
unfolding first_change advanced
first_keeps h dt modified ids nodes q =
    record { stress = refl; mass = refl; volume0 = refl; crack = refl; psi = refl; threshold = refl; parameter1 = refl; parameter2 = refl; kinematic_velocity = refl; flags = refl }

second_keeps : (given : Store) (p : ℕ) (q : Particle) → SecondKeeps (second_change given p q) q
unfolding second_change finished
second_keeps given p q =
    record { position = refl; stress = refl; mass = refl; volume0 = refl; crack = refl; threshold = refl; kinematic_velocity = refl; kinematic = refl; fluid = refl; static = refl }

pub laws : (s : Store) (n : ℕ) (held : Holds particle_form s n) → Laws s n held
unfolding first_half second_half
laws s n held =
    record {
      first = λ h dt modified ids nodes. each (λ p. first_change h ids nodes dt modified) s n held;
      second = λ given. each (second_change given) s n held;
      first_keeps = λ h dt modified ids nodes. each_keeps (λ p. first_change h ids nodes dt modified) FirstKeeps (λ p. first_keeps h dt modified ids nodes) s n held;
      second_keeps = λ given. each_keeps (second_change given) SecondKeeps (second_keeps given) s n held;
      first_held = λ h dt modified ids nodes. each_held (λ p. first_change h ids nodes dt modified) s n held;
      second_held = λ given. each_held (second_change given) s n held;
    }
