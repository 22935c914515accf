-- Document 01: "A lookup answers the place of the region, or that it is absent", by the rule of document 02, request 09: "halves the span of the list until one entry or
-- none is left (the lower part has the floor of half; the upper is kept if its first id is at most the sought one)". Definitions, and what is proved of them.
-- Assumes nothing.
use Rattle.std.specs.Prelude.{◌≡◌, ℕ, zero, suc, ◌+◌, ◌-◌, ◌/◌, ◌<◌, cond, List, length, Option, Some, None, ◌==◌, ◌≢◌, nat_le, slice_index}

-- the `count` entries from `first` on
pub record Span : Type 0 where
  pub first : ℕ
  pub count : ℕ

-- the floor of half of the entries, and the others
abbrev pub lower : Span → Span
lower s = record { first = s.first; count = s.count / 2 }

abbrev pub upper : Span → Span
upper s = record { first = s.first + s.count / 2; count = s.count - s.count / 2 }

module _ (ids : List ℕ) (id : ℕ) where
  -- one halving; one entry or none stays as it is
  unfoldable pub halved : Span → Span
  halved s = cond (nat_le s.count 1) s (cond (nat_le (slice_index ids (upper s).first) id) (upper s) (lower s))

  -- n halvings
  unfoldable pub narrowed : ℕ → Span → Span
  narrowed zero s = s
  narrowed (suc n) s = narrowed n (halved s)

  -- what is left: none, or one entry, which is the sought one or not
  unfoldable pub left : Span → Option ℕ
  left s = cond (s.count == 0) None (cond (slice_index ids s.first == id) (Some s.first) None)

  -- as many halvings as there are entries leave one or none
  unfoldable pub searched : ℕ → ℕ → Option ℕ
  searched first count = left (narrowed count (record { first = first; count = count }))

unfoldable pub lookup : List ℕ → ℕ → Option ℕ
lookup ids id = searched ids id 0 (length ids)

-- ---- what is proved of it

abbrev pub Ascending : List ℕ → Type 0
Ascending ids = (i j : ℕ) → i < j → j < length ids → slice_index ids i < slice_index ids j

pub record Laws (ids : List ℕ) : Type 0 where
  -- What is found stands there, in every list.
  pub found : (id k : ℕ) → lookup ids id ≡ Some k → (k < length ids) × (slice_index ids k ≡ id)
  -- In an ascending list each id is found at its place,
  pub place : Ascending ids → (k : ℕ) → k < length ids → lookup ids (slice_index ids k) ≡ Some k
  -- and what does not stand there is absent.
  pub absent : (id : ℕ) → ((k : ℕ) → k < length ids → slice_index ids k ≢ id) → lookup ids id ≡ None
