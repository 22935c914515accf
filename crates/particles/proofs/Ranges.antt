-- What `all` over a range has shown of each number in it. Assumes nothing.
use Rattle.std.proofs.Common.{arith, ◌≡◌, Bool, true, false, List, Option, ℕ, ◌+◌, ◌-◌, ◌≤◌, ◌<◌, refl}
use Rattle.std.specs.Fn.{Called}
use Rattle.std.specs.Iterator.{YieldsThen}
use Rattle.std.specs.List.{FoldsTo}
use Rattle.std.specs.Option.{MatchOption}
use Rattle.std.specs.declared.ops.Range.{Range}
use Rattle.std.proofs.iter.Yields.{nat_range_steps}
use Rattle.std.proofs.lemmas.Bool.{MatchBool-at_true}
use Rattle.std.proofs.lemmas.Iterator.{cases_from_all, YieldsList-from_range}
use Rattle.std.proofs.lemmas.List.FromFn.{length-range_with_len, get_or-range_with_len}
use denote.Param.Members.{Mut}

pub each_in_range : {F : Type 0} {g : Mut F (ℕ × Unit {0}) Bool} {u : Range ℕ} {f : F} {r : Bool} (P : ℕ → Type 0) (a n : ℕ)
    → (xs : List ℕ) × (o : Option ℕ) × (j : F) × YieldsThen nat_range_steps (record { start = a; end = a + n }) xs o u × FoldsTo (λ p x q. Called g p (x, tt) true q) f xs j × MatchOption o (r ≡ true) (λ x. (r ≡ false) × ((h : F) × Called g j (x, tt) false h))
    → ((x : ℕ) (q : F) → Called g f (x, tt) true q → (q ≡ f) × P x)
    → r ≡ true → (k : ℕ) → a ≤ k → k < a + n → P k
each_in_range P a n ran call e k l u =
    let i : k - a < n = omega arith in
    let at : a + (k - a) ≡ k = omega arith in
    let each = MatchBool-at_true _ _ e (cases_from_all _ _ _ P (λ x. Unit {0}) ran (YieldsList-from_range a (a + n) n refl (omega arith)) call (λ x q h. tt)) in
    rw (get_or-range_with_len a n (k - a) 0 i, at) at (each (k - a) 0 (omega arith) (rw (length-range_with_len a n) i))
