-- A loop that takes a table's entries, from the front, to what a function makes of them.
-- Assumes nothing.
use Rattle.std.proofs.Common.{◌≡◌, ℕ, zero, suc, ◌+◌, ◌<◌, ◌≤◌, List, [], ◌∷◌, map, length, get_or, set, refl, ap, ◌∙◌, ap₂, le_of_suc-le-suc, not-suc-le-zero, add-one}

-- after k turns
unfoldable pub filled : (ℕ → ℕ) → List ℕ → ℕ → List ℕ
filled f [] k = []
filled f (x ∷ t) zero = x ∷ filled f t zero
filled f (x ∷ t) (suc k) = f x ∷ filled f t k

start : (f : ℕ → ℕ) (t : List ℕ) → t ≡ filled f t 0
unfolding filled
start f [] = refl
start f (x ∷ t) = ap (λ (l : List ℕ). x ∷ l) (start f t)

next : (f : ℕ → ℕ) (t : List ℕ) (k : ℕ) → get_or (filled f t k) k 0 ≡ get_or t k 0
unfolding filled
next f [] k = refl
next f (x ∷ t) zero = refl
next f (x ∷ t) (suc k) = next f t k

turn : (f : ℕ → ℕ) (t : List ℕ) (k : ℕ) → k < length t → set (filled f t k) k (f (get_or t k 0)) ≡ filled f t (suc k)
unfolding filled
turn f [] k h = absurd (not-suc-le-zero h)
turn f (x ∷ t) zero h = refl
turn f (x ∷ t) (suc k) h = ap (λ (l : List ℕ). f x ∷ l) (turn f t k (le_of_suc-le-suc h))

whole : (f : ℕ → ℕ) (t : List ℕ) (k : ℕ) → length t ≤ k → filled f t k ≡ map f t
unfolding filled
whole f [] k h = refl
whole f (x ∷ t) zero h = absurd (not-suc-le-zero h)
whole f (x ∷ t) (suc k) h = ap (λ (l : List ℕ). f x ∷ l) (whole f t k (le_of_suc-le-suc h))

-- as the invariant of the loop over the array a, which began as the table t
pub record Filled (f : ℕ → ℕ) (t : List ℕ) (k : ℕ) (a : List ℕ) : Type 0 where
  pub is : a ≡ filled f t k

pub filled_none : (f : ℕ → ℕ) (t : List ℕ) → Filled f t 0 t
filled_none f t = record { is = start f t }

module _ {f : ℕ → ℕ} {t : List ℕ} {k : ℕ} {a : List ℕ} (e : Filled f t k a) where
  pub filled_more : {v : ℕ} → k < length t → v ≡ f (get_or a k 0) → Filled f t (k + 1) (set a k v)
  filled_more h v =
      let g = v ∙ ap (λ (b : List ℕ). f (get_or b k 0)) e.is ∙ ap f (next f t k) in
      record { is = ap₂ (λ (b : List ℕ) (w : ℕ). set b k w) e.is g ∙ rw add-one (turn f t k h) }

  pub filled_all : length t ≤ k → a ≡ map f t
  filled_all h = e.is ∙ whole f t k h
