-- `particles::inner::read` meets its contract: the entries of a part of a list are those that are read one by one.
use Rattle.std.proofs.Common.{arith, ◌≡◌, ◌+◌, ◌-◌, ◌≤◌, ◌<◌, length, ℕ, List, take, drop, sym, ◌∙◌}
use Rattle.std.proofs.lemmas.List.{ext_get_or, get_or-take, get_or-drop, length-take, length-drop}
use Rattle.laws.specs.Store.{read}
use Rattle.laws.proofs.Rows.{length_read, read_at}
use Rattle.particles.proofs.inner.read.Goals as goal

part_read : {A : Type 0} (d : A) (xs : List A) (at n : ℕ) → at + n ≤ length xs → take (at + n - at) (drop at xs) ≡ read d xs at n
part_read d xs at n h =
    let e : at + n - at ≡ n = omega arith in
    rw e
    (ext_get_or d _ _ (simp (length-take, length-drop, length_read d xs at 0 n) (omega arith))
    (λ k l.
    let u : k < n = omega (arith, simp (length-take, length-drop) at l) in
    let z : 0 + k ≡ k = omega arith in
    get_or-take n (drop at xs) k d u ∙ get_or-drop at xs k d ∙ sym (rw z at (read_at d xs at 0 n k u))))

pub returns : goal.returns
returns g c d = (rw c.unwrap.ensures at c.try_into.ensures.1).same ∙ part_read d _ _ _ c.requires
