-- What it means that a line is `Held`: a line feed stands where it ends, and none in it. Assumes nothing.
use Rattle.std.proofs.Common.{ℕ, zero, suc, ◌<◌, min, ◌≤◌, ◌-◌, ap, sym, ◌∙◌, take-take, Some, slice_range, ◌≡◌, refl, Bool, true, false, cond, List, [], ◌∷◌, arith, length, take, drop, get_or, length-take, length-drop, get_or-drop, get_or-take, eqb, eqb-true}
use Rattle.std.proofs.lemmas.Slice.{between_is}
use Rattle.fields.specs.Read.{before, place_of}
use Rattle.replay.specs.declared.Place.{Place}
use Rattle.replay.specs.Lines.{Held, Question, IsQuestion}

before_at : (b : ℕ) (xs : List ℕ) → before b xs < length xs → get_or xs (before b xs) 0 ≡ b
unfolding before
before_at b [] h = absurd (omega arith)
before_at b (x ∷ xs) h = go (before_at b xs) (eqb x b) refl h
  where
    go : (before b xs < length xs → get_or xs (before b xs) 0 ≡ b)
        → (t : Bool) → eqb x b ≡ t → cond t 0 (suc (before b xs)) < length (x ∷ xs) → get_or (x ∷ xs) (cond t 0 (suc (before b xs))) 0 ≡ b
    go rest true e l = eqb-true x b e
    go rest false e l = rest (omega arith)

place_at : (b at : ℕ) (xs : List ℕ) → place_of b at xs < length xs → get_or xs (place_of b at xs) 0 ≡ b
unfolding place_of
place_at b at xs h =
    let e : min at (length xs) ≡ at = omega arith in
    let l : before b (drop at xs) < length (drop at xs) = rw length-drop (omega arith) in
    rw (e, ← get_or-drop) (before_at b (drop at xs) l)

pub feed : (left : ℕ) (buf : List ℕ) (p : Place) → Held left buf p → get_or buf p.to 0 ≡ 10
feed left buf p h =
    let k : p.to < p.have = h.before in
    let l : place_of 10 p.from (take p.have buf) < length (take p.have buf) = rw length-take (omega arith) in
    let e = place_at 10 p.from (take p.have buf) l in
    rw (← h.ended, get_or-take) at e

before_take : (b : ℕ) (xs : List ℕ) (n : ℕ) → n ≤ before b xs → (before b (take n xs) ≡ n) × (length (take n xs) ≡ n)
unfolding before
before_take b [] zero h = (refl, refl)
before_take b [] (suc n) h = absurd (omega arith)
before_take b (x ∷ xs) zero h = (refl, refl)
before_take b (x ∷ xs) (suc n) h = go (before_take b xs n) (eqb x b) h
  where
    go : (n ≤ before b xs → (before b (take n xs) ≡ n) × (length (take n xs) ≡ n))
        → (t : Bool) → suc n ≤ cond t 0 (suc (before b xs)) → (cond t 0 (suc (before b (take n xs))) ≡ suc n) × (suc (length (take n xs)) ≡ suc n)
    go rest true l = absurd (omega arith)
    go rest false l = let r = rest (omega arith) in (ap suc r.0, ap suc r.1)

pub question : (left : ℕ) (buf : List ℕ) (p : Place) → Question left buf (Some p) → IsQuestion (slice_range buf p.from p.to)
unfolding place_of
question left buf p h =
    let l = h.0 in
    let o : p.from ≤ p.to = l.ordered in
    let k : p.to < p.have = l.before in
    let w : p.have ≤ length buf = l.within in
    let xs = drop p.from (take p.have buf) in
    let size : length (take p.have buf) ≡ p.have = rw length-take (omega arith) in
    let n : before 10 (drop p.from (take p.have buf)) ≡ p.to - p.from = omega (arith, l.ended) in
    let shorter : p.to - p.from ≤ p.have - p.from = omega arith in
    let same : slice_range buf p.from p.to ≡ take (p.to - p.from) xs = rw (← between_is buf p.from p.have, take-take) in
    let r = before_take 10 xs (p.to - p.from) (omega arith) in
    (rw same (r.0 ∙ sym r.1), rw (between_is buf p.from p.to) h.1)
