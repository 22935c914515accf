-- Lists of shifts: those that have one of some values on each axis, and a computed test that a list holds just these.
-- Assumes nothing.
use Rattle.std.proofs.Common.{◌≡◌, ℕ, Bool, true, false, ◌||◌, T, eqb, List, [], ◌∷◌, ◌++◌, map, sym, refl, ap, subst, ap₂, ⊎_elim, eqb→eq}
use mathlib.Core.List.Memᴰ
use Rattle.packing.specs.Mask.{Mask}
use Rattle.packing.specs.Neighbours.{◌∈◌}
use Rattle.packing.proofs.Linear.{both, both_left, both_right, or_cases}

-- ---- membership

pub in_map : {A B : Type 0} (f : A → B) {x : A} {l : List A} → x ∈ l → f x ∈ map f l
in_map f (Memᴰ.head e) = Memᴰ.head (ap f e)
in_map f (Memᴰ.tail m) = Memᴰ.tail (in_map f m)

-- what stands in a mapped list comes from somewhere
pub record From {A B : Type 0} (f : A → B) (l : List A) (y : B) : Type 0 where
  pub at : A
  pub stands : at ∈ l
  pub gives : y ≡ f at

pub from_map : {A B : Type 0} (f : A → B) (l : List A) {y : B} → y ∈ map f l → From f l y
from_map f [] m = absurd (Memᴰ.not-nil m)
from_map f (x ∷ l) (Memᴰ.head e) = record { at = x; stands = Memᴰ.head refl; gives = e }
from_map f (x ∷ l) (Memᴰ.tail m) =
    let w = from_map f l m in
    record { at = w.at; stands = Memᴰ.tail w.stands; gives = w.gives }

-- ---- one of some values on each axis

abbrev pub Each : List ℕ → List Mask → List ℕ → Type 0
Each vals [] [] = Unit {0}
Each vals [] (c ∷ cs) = ⊥
Each vals (m ∷ ms) [] = ⊥
Each vals (m ∷ ms) (c ∷ cs) = (c ∈ vals) × Each vals ms cs

unfoldable pub before : List ℕ → List (List ℕ) → List (List ℕ)
before [] l = []
before (v ∷ vs) l = map (λ cs. v ∷ cs) l ++ before vs l

unfoldable pub grid : List ℕ → List Mask → List (List ℕ)
unfolding before
grid vals [] = [] ∷ []
grid vals (m ∷ ms) = before vals (grid vals ms)

put_before : {v : ℕ} {vals cs : List ℕ} {l : List (List ℕ)} → v ∈ vals → cs ∈ l → (v ∷ cs) ∈ before vals l
unfolding before
put_before {v} {vals = []} {cs} {l} n m = elim n [ ]
put_before {v} {vals = w ∷ vs} {cs} {l} (Memᴰ.head e) m =
    Memᴰ.append_left (before vs l) (Memᴰ.cast (ap (λ (x : ℕ). x ∷ cs) e) (in_map (λ cs. w ∷ cs) m))
put_before {v} {vals = w ∷ vs} {cs} {l} (Memᴰ.tail n) m = Memᴰ.append_right (map (λ cs. w ∷ cs) l) (put_before n m)

pub each_in : (vals : List ℕ) (ms : List Mask) (cs : List ℕ) → Each vals ms cs → cs ∈ grid vals ms
unfolding grid before
each_in vals [] [] e = Memᴰ.head refl
each_in vals [] (c ∷ cs) e = absurd e
each_in vals (m ∷ ms) [] e = absurd e
each_in vals (m ∷ ms) (c ∷ cs) e = put_before e.0 (each_in vals ms cs e.1)

-- the first value, and the rest, of what stands there
pub record Parts (vals : List ℕ) (l : List (List ℕ)) (cs : List ℕ) : Type 0 where
  pub first : ℕ
  pub rest : List ℕ
  pub value : first ∈ vals
  pub stands : rest ∈ l
  pub is : cs ≡ first ∷ rest

parts : (vals : List ℕ) (l : List (List ℕ)) (cs : List ℕ) → cs ∈ before vals l → Parts vals l cs
unfolding before
parts [] l cs m = absurd (Memᴰ.not-nil m)
parts (v ∷ vs) l cs m =
    ⊎_elim
    (λ u. let w = from_map (λ cs. v ∷ cs) l u in record { first = v; rest = w.at; value = Memᴰ.head refl; stands = w.stands; is = w.gives })
    (λ u. let w = parts vs l cs u in record { first = w.first; rest = w.rest; value = Memᴰ.tail w.value; stands = w.stands; is = w.is })
    (Memᴰ.append_cases (map (λ cs. v ∷ cs) l) m)

pub in_each : (vals : List ℕ) (ms : List Mask) (cs : List ℕ) → cs ∈ grid vals ms → Each vals ms cs
unfolding grid before
in_each vals [] cs m =
    ⊎_elim (λ e. subst (λ (x : List ℕ). Each vals [] x) (sym e) tt) (λ u. absurd (Memᴰ.not-nil u)) (Memᴰ.cases_cons m)
in_each vals (m ∷ ms) cs u =
    let w = parts vals (grid vals ms) cs u in
    subst (λ (x : List ℕ). Each vals (m ∷ ms) x) (sym w.is) (w.value, in_each vals ms w.rest w.stands)

-- ---- tests that compute

unfoldable pub same_list : List ℕ → List ℕ → Bool
same_list [] [] = true
same_list [] (b ∷ l) = false
same_list (a ∷ k) [] = false
same_list (a ∷ k) (b ∷ l) = both (eqb a b) (same_list k l)

same_list→eq : (k l : List ℕ) → T (same_list k l) → k ≡ l
unfolding same_list
same_list→eq [] [] t = refl
same_list→eq [] (b ∷ l) t = absurd t
same_list→eq (a ∷ k) [] t = absurd t
same_list→eq (a ∷ k) (b ∷ l) t =
    ap₂ ◌∷◌ (eqb→eq a b (both_left (eqb a b) (same_list k l) t)) (same_list→eq k l (both_right (eqb a b) (same_list k l) t))

unfoldable pub has : List (List ℕ) → List ℕ → Bool
unfolding same_list
has [] k = false
has (l ∷ ls) k = same_list k l || has ls k

has→in : (ls : List (List ℕ)) (k : List ℕ) → T (has ls k) → k ∈ ls
unfolding has
has→in [] k t = absurd t
has→in (l ∷ ls) k t =
    ⊎_elim (λ e. Memᴰ.head (same_list→eq k l e)) (λ u. Memᴰ.tail (has→in ls k u)) (or_cases (same_list k l) (has ls k) t)

unfoldable pub all_in : List (List ℕ) → List (List ℕ) → Bool
all_in [] ls = true
all_in (k ∷ ks) ls = both (has ls k) (all_in ks ls)

pub all_in→in : (ks ls : List (List ℕ)) → T (all_in ks ls) → {k : List ℕ} → k ∈ ks → k ∈ ls
unfolding all_in
all_in→in [] ls t m = elim m [ ]
all_in→in (k ∷ ks) ls t (Memᴰ.head e) = Memᴰ.cast e (has→in ls k (both_left (has ls k) (all_in ks ls) t))
all_in→in (k ∷ ks) ls t (Memᴰ.tail m) = all_in→in ks ls (both_right (has ls k) (all_in ks ls) t) m

-- the list holds just the shifts that have one of the values on each axis
unfoldable pub just : List ℕ → List Mask → List (List ℕ) → Bool
unfolding grid
just vals ms ls = both (all_in (grid vals ms) ls) (all_in ls (grid vals ms))

module _ (vals : List ℕ) (ms : List Mask) (ls : List (List ℕ)) (t : T (just vals ms ls)) where
  pub just_in : {cs : List ℕ} → Each vals ms cs → cs ∈ ls
  unfolding just
  just_in {cs} e = all_in→in (grid vals ms) ls (both_left (all_in (grid vals ms) ls) (all_in ls (grid vals ms)) t) (each_in vals ms cs e)

  pub just_each : {cs : List ℕ} → cs ∈ ls → Each vals ms cs
  unfolding just
  just_each {cs} m = in_each vals ms cs (all_in→in ls (grid vals ms) (both_right (all_in (grid vals ms) ls) (all_in ls (grid vals ms)) t) m)
