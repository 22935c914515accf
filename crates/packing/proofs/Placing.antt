-- An axis as the code packs and unpacks it: two low digits of the coordinate at lo, and the rest, step places apart, from hi on.
-- Assumes nothing.
use Rattle.std.proofs.Common.{◌≡◌, ℕ, ◌*◌, ◌/◌, ◌%◌, ◌^◌, ◌<◌, T, leb, w32, Fits}
use Rattle.std.specs.Int.Bits.{bit_and, bit_or}
use Rattle.packing.specs.Mask.{Mask, count, place, coord}
use Rattle.packing.specs.Ids.{axis}
use Rattle.packing.proofs.Linear.{Puts, Gets, put, get}
use Rattle.packing.proofs.Group.{coord_fits}

-- what is tested of an axis; e has the digits that stand step places apart
pub record Layout (e : Mask) (lo hi step : ℕ) : Type 0 where
  pub puts : Puts e (axis lo hi step) hi lo
  pub gets : Gets e (axis lo hi step) hi lo
  pub small : T (leb (count (axis lo hi step)) 32)

pub tested : {e : Mask} {lo hi step : ℕ} → Puts e (axis lo hi step) hi lo → Gets e (axis lo hi step) hi lo
    → T (leb (count (axis lo hi step)) 32) → Layout e lo hi step
tested p g s = record { puts = p; gets = g; small = s }

-- what the code makes of what `spread` and `compact` give
abbrev joined : ℕ → ℕ → ℕ → ℕ → ℕ
joined lo hi s v = bit_or ((s * 2 ^ hi) % 2 ^ 64) ((bit_and v 3 * 2 ^ lo) % 2 ^ 64)

abbrev parted : ℕ → ℕ → ℕ → ℕ
parted lo s i = bit_or ((s * 2 ^ 2) % 2 ^ 64) (bit_and (i / 2 ^ lo) 3)

pub record Read (lo hi step s i : ℕ) : Type 0 where
  pub is : parted lo s i ≡ coord (axis lo hi step) i
  pub fits : Fits w32 (parted lo s i)

module _ {e : Mask} {lo hi step : ℕ} (a : Layout e lo hi step) where
  pub put_axis : {s v : ℕ} → s ≡ place e (v / 2 ^ 2) → v < 2 ^ 32 → joined lo hi s v ≡ place (axis lo hi step) v
  put_axis {s} {v} = put e (axis lo hi step) hi lo a.puts s v

  pub get_axis : {s i : ℕ} → s ≡ coord e (i / 2 ^ hi) → i < 2 ^ 64 → Read lo hi step s i
  get_axis {s} {i} p h =
      let is = get e (axis lo hi step) hi lo a.gets s i p h in
      record { is = is; fits = record { fits = rw is (coord_fits 32 (axis lo hi step) i a.small) } }
