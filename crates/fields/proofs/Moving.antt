-- How a part of a list begins, and what it is at the list's front. Assumes nothing.
use Rattle.std.proofs.Common.{ℕ, ◌-◌, ◌≤◌, ◌<◌, min, ◌≡◌, sym, ◌∙◌, false, List, append_assoc, arith, length, take, drop, get_or, length-take, length-drop, drop_of_length-le, drop-cons, get_or-take, eqb}
use Rattle.std.proofs.Math.Seq.{slice}
use Rattle.std.specs.List.{copy_within}
use Rattle.fields.specs.Read.{begins_with}
use Rattle.fields.specs.Write.{put_at}
use Rattle.fields.proofs.Writing.{fits, put_none}
use Rattle.std.proofs.lemmas.List.{take_min}
use Rattle.std.proofs.lemmas.Slice.{between_is}

module _ (b from to : ℕ) (s : List ℕ) where
  pub begins_none : min to (length s) ≤ from → false ≡ begins_with b (slice from to s)
  unfolding begins_with
  begins_none h =
      let short : length (take to s) ≤ from = rw length-take h in
      rw (drop_of_length-le (take to s) short)

  pub begins_some : from < min to (length s) → eqb (get_or s from 0) b ≡ begins_with b (slice from to s)
  unfolding begins_with
  begins_some h =
      let l : from < length (take to s) = rw length-take h in
      let k : from < to = omega arith in
      rw (drop-cons (take to s) from 0 l, get_or-take to s from 0 k)

pub length_part : (from to : ℕ) (s : List ℕ) → length (slice from to s) ≡ min to (length s) - from
length_part from to s = length-drop from (take to s) ∙ rw length-take

module _ (from to : ℕ) (s : List ℕ) where
  pub moved_none : min to (length s) ≤ from → s ≡ put_at s 0 (slice from to s)
  moved_none h =
      let short : length (take to s) ≤ from = rw length-take h in
      rw (drop_of_length-le (take to s) short) (sym (put_none s 0 (omega arith)))

-- the part as `copy_within` moves it
pub moved_part : (from to stop : ℕ) (s : List ℕ) → stop ≡ min to (length s) → from ≤ stop → {t : List ℕ} → t ≡ copy_within s from stop 0 → t ≡ put_at s 0 (slice from to s)
moved_part from to stop s e h q =
    let part : take (stop - from) (drop from s) ≡ slice from to s = between_is s from stop ∙ rw (e, take_min) in
    let size : length (slice from to s) ≡ stop - from = rw length_part (omega arith) in
    q ∙ rw (append_assoc, part) (fits s 0 (slice from to s) (stop - from) size (omega arith)).0
