-- The search by halves: a span narrows to one entry or none in as many halvings as it has entries, and more change nothing, so a half is searched as the whole is.
-- What is found stands there, and in an ascending list every id is found.
-- Assumes nothing.
use Rattle.std.proofs.lemmas.Bool.{eqb-false, lt-leb}
use Rattle.std.proofs.Common.{◌≡◌, ℕ, zero, suc, ◌+◌, ◌-◌, ◌/◌, ◌<◌, ◌≤◌, Bool, true, false, cond, eqb, leb, List, length, get_or, Option, Some, None, sym, refl, ap, arith, eq-eqb, ne_eqb, eqb-true, le-leb, leb-false, leb-true}
use Rattle.cells.specs.Lookup.{Span, lower, upper, halved, narrowed, left, searched, lookup, Ascending, Laws}

-- what holds of the choice by a test
chosen : {A : Type 0} (P : A → Type 0) (b : Bool) {x y : A} → (b ≡ true → P x) → (b ≡ false → P y) → P (cond b x y)
chosen P true f g = f refl
chosen P false f g = g refl

abbrev span : ℕ → ℕ → Span
span first count = record { first = first; count = count }

-- an answer that is no place
none : (f : Option ℕ) → ((k : ℕ) → f ≡ Some k → ⊥) → f ≡ None
none (Some k) n = absurd (n k refl)
none None n = refl

module _ (ids : List ℕ) (id : ℕ) where
  -- ---- one halving

  -- what holds in each case holds of the halved span
  by_cases : (P : Span → Type 0) (s : Span) → (s.count ≤ 1 → P s) → (1 < s.count → get_or ids (upper s).first 0 ≤ id → P (upper s))
      → (1 < s.count → id < get_or ids (upper s).first 0 → P (lower s)) → P (halved ids id s)
  unfolding halved
  by_cases P s one up down =
      chosen P (leb s.count 1) (λ e. one (leb-true _ _ e))
      (λ e. chosen P (leb (get_or ids (upper s).first 0) id) (λ f. up (leb-false _ _ e) (leb-true _ _ f)) (λ f. down (leb-false _ _ e) (leb-false _ _ f)))

  rests : (s : Span) → s.count ≤ 1 → halved ids id s ≡ s
  unfolding halved
  rests s h = rw (le-leb _ _ h)

  -- a span of two entries or more gets smaller
  shrinks : (n : ℕ) (s : Span) → s.count ≤ suc (suc n) → (halved ids id s).count ≤ suc n
  shrinks n s h = by_cases (λ t. t.count ≤ suc n) s (λ one. omega arith) (λ many up. omega arith) (λ many down. omega arith)

  -- ---- many of them

  -- what a halving keeps, all of them keep
  keeps : (P : Span → Type 0) → ((s : Span) → P s → P (halved ids id s)) → (n : ℕ) (s : Span) → P s → P (narrowed ids id n s)
  unfolding narrowed
  keeps P step zero s p = p
  keeps P step (suc n) s p = keeps P step n (halved ids id s) (step s p)

  -- a span narrows to one entry or none,
  narrows : (n : ℕ) (s : Span) → s.count ≤ suc n → (narrowed ids id n s).count ≤ 1
  unfolding narrowed
  narrows zero s h = h
  narrows (suc n) s h = narrows n (halved ids id s) (shrinks n s h)

  -- and more halvings change nothing
  stays : (n : ℕ) (s : Span) → s.count ≤ 1 → narrowed ids id n s ≡ s
  stays n s h = keeps (λ t. t ≡ s) (λ t e. rw e (rests s h)) n s refl

  enough : (n m : ℕ) (s : Span) → s.count ≤ suc n → s.count ≤ suc m → narrowed ids id n s ≡ narrowed ids id m s
  unfolding narrowed
  enough zero m s h k = sym (stays m s h)
  enough (suc n) zero s h k = stays (suc n) s k
  enough (suc n) (suc m) s h k = enough n m (halved ids id s) (shrinks n s h) (shrinks m s k)

  -- ---- the search

  -- it goes on in the half that is kept
  goes_on : (n : ℕ) (s t : Span) → 1 < s.count → s.count ≤ n → halved ids id s ≡ t → left ids id (narrowed ids id n s) ≡ searched ids id t.first t.count
  unfolding narrowed searched
  goes_on zero s t many h e = absurd (omega arith)
  goes_on (suc n) s t many h e = rw e (ap (left ids id) (enough n t.count t (rw e at (shrinks n s (omega arith))) (omega arith)))

  module _ (first count : ℕ) (many : 1 < count) where
    pub goes_up : get_or ids (first + count / 2) 0 ≤ id → searched ids id first count ≡ searched ids id (first + count / 2) (count - count / 2)
    unfolding searched halved
    goes_up h = goes_on count (span first count) _ many (omega arith) (rw (lt-leb _ _ many, le-leb _ _ h))

    pub goes_down : id < get_or ids (first + count / 2) 0 → searched ids id first count ≡ searched ids id first (count / 2)
    unfolding searched halved
    goes_down h = goes_on count (span first count) _ many (omega arith) (rw (lt-leb _ _ many, lt-leb _ _ h))

  -- ---- what is found

  -- within the list
  abbrev Within : Span → Type 0
  Within s = s.first + s.count ≤ length ids

  within : (s : Span) → Within s → Within (halved ids id s)
  within s h = by_cases Within s (λ one. h) (λ many up. omega arith) (λ many down. omega arith)

  stands : (s : Span) (k : ℕ) → Within s → left ids id s ≡ Some k → (k < length ids) × (get_or ids k 0 ≡ id)
  unfolding left
  stands s k h =
      let P : Option ℕ → Type 0 = λ f. f ≡ Some k → (k < length ids) × (get_or ids k 0 ≡ id) in
      chosen P (eqb s.count 0) (λ empty e. absurd (no e))
      (λ some. chosen P (eqb (get_or ids s.first 0) id)
      (λ same e. let at : s.first ≡ k = cc in (omega (arith, eqb-false s.count 0 some), rw (← at) (eqb-true _ _ same)))
      (λ other e. absurd (no e)))
    where
      no : None ≡ Some k → ⊥
      no e = let z : ◌≡◌ {A = ℕ} 0 1 = cc in omega arith

  abbrev all : Span
  all = span 0 (length ids)

  found : (k : ℕ) → lookup ids id ≡ Some k → (k < length ids) × (get_or ids k 0 ≡ id)
  unfolding lookup searched
  found k e = stands (narrowed ids id (length ids) all) k (keeps Within within (length ids) all (omega arith)) e

  -- ---- in an ascending list

  module _ (up : Ascending ids) (k : ℕ) (here : get_or ids k 0 ≡ id) where
    -- a span that has the id's place
    record Has (s : Span) : Type 0 where
      after : s.first ≤ k
      before : k < s.first + s.count
      inside : Within s

    has : (s : Span) → Has s → Has (halved ids id s)
    has s h =
        by_cases Has s (λ one. h)
        (λ many le.
        let not : k < (upper s).first → ⊥ = λ l. omega (arith, up k (upper s).first l (omega arith)) in
        omega arith)
        (λ many lt.
        let not : (upper s).first < k → ⊥ = λ l. omega (arith, up (upper s).first k l (omega arith)) in
        let other : (upper s).first ≡ k → ⊥ = λ e. omega (arith, ap (λ (i : ℕ). get_or ids i 0) e) in
        omega arith)

    is_left : (s : Span) → s.count ≤ 1 → Has s → left ids id s ≡ Some k
    unfolding left
    is_left s one h =
        let at : s.first ≡ k = omega arith in
        rw (ne_eqb s.count 0 (omega arith), at, eq-eqb _ _ here)

    placed : k < length ids → lookup ids id ≡ Some k
    unfolding lookup searched
    placed l =
        is_left (narrowed ids id (length ids) all) (narrows (length ids) all (omega arith))
        (keeps Has has (length ids) all (omega arith))

pub laws : (ids : List ℕ) → Laws ids
laws ids =
    record {
      found = found ids;
      place = λ up k l. placed ids (get_or ids k 0) up k refl l;
      absent = λ id n. none (lookup ids id) (λ k e. n k (found ids id k e).0 (found ids id k e).1);
    }
