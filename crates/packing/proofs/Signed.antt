-- A signed number of 32 bits as it is passed, by its bits.
-- Assumes nothing.
use Rattle.std.proofs.Common.{◌≡◌, ℕ, ℤ, pos, negsuc, refl, ap, ◌∙◌, w32, SFits, to_z, of_z}
use Rattle.std.proofs.lemmas.Int.{to_z-of_z}
use Rattle.packing.specs.Ids.{complement}

bits_are : (x : ℤ) → of_z w32 x ≡ complement x
unfolding complement
bits_are (pos n) = refl
bits_are (negsuc n) = refl

pub passed : {x : ℤ} {r : ℕ} → SFits w32 x → r ≡ of_z w32 (to_z w32 (of_z w32 x)) → r ≡ complement x
passed {x} f e = e ∙ ap (of_z w32) (to_z-of_z w32 x f) ∙ bits_are x
