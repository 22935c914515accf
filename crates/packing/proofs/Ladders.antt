-- Morton's steps as words: a ladder of shifts and masks, climbed to spread a number's digits and descended to put them together.
-- Assumes nothing.
use Rattle.std.proofs.Common.{◌≡◌, ℕ, ◌-◌, ◌*◌, ◌%◌, ◌==◌, ◌⊎◌, ⊎_elim, cond, T, List, [], ◌∷◌, slice_index, sym, subst}
use Rattle.packing.specs.declared.morton.TheConstants.{MASKS_2, MASKS_3}
use Rattle.packing.specs.Ids.{digits_by}
use Rattle.packing.specs.Mask.{Mask, place, coord}
use Rattle.packing.proofs.Linear.{Word, arg, ◌&◌, ◌∣◌, shl, ◌>>◌, placed, read, run, alike}

-- the mask of digits that stand together, and for each step up its shift and the mask of the digits after it
pub record Ladder : Type 0 where
  pub foot : ℕ
  pub steps : List (ℕ × ℕ)
  -- where the digits stand at the top
  pub top : Mask

unfoldable up : Word → List (ℕ × ℕ) → Word
up e [] = e
up e (s ∷ l) = up ((e ∣ shl 64 e s.0) & s.1) l

unfoldable pub climb : Ladder → Word
unfolding up
climb l = up (arg & l.foot) l.steps

unfoldable down : ℕ → List (ℕ × ℕ) → Word
down m [] = arg & m
down m (s ∷ l) = (down s.1 l ∣ (down s.1 l >> s.0)) & m

unfoldable pub descend : Ladder → Word
unfolding down
descend l = down l.foot l.steps

-- a step of each digit finds its place, and the way back its coordinate
abbrev pub Leads : Ladder → Type 0
Leads l = T (alike 64 (run (climb l)) (run (placed l.top arg))) × T (alike 64 (run (descend l)) (run (read l.top arg)))

-- the digits that stand so many places apart, and the steps that lead there
abbrev pub every : ℕ → Mask
every axes = digits_by (λ b. b % axes == 0) 63 0

unfoldable pub ladder : ℕ → List ℕ → Ladder
ladder axes masks =
    record {
      foot = slice_index masks 0;
      steps =
          (16 * (axes - 1), slice_index masks 1) ∷ (8 * (axes - 1), slice_index masks 2) ∷ (4 * (axes - 1), slice_index masks 3)
          ∷ (2 * (axes - 1), slice_index masks 4) ∷ (axes - 1, slice_index masks 5) ∷ [];
      top = every axes;
    }

both : Leads (ladder 2 MASKS_2) × Leads (ladder 3 MASKS_3)
unfolding run alike climb descend ladder place coord digits_by
both = ((tt, tt), (tt, tt))

pub leads : {axes : ℕ} {masks : List ℕ} → (axes ≡ 2) ⊎ (axes ≡ 3) → masks ≡ cond (axes == 2) MASKS_2 MASKS_3 → Leads (ladder axes masks)
leads {axes} p e =
    subst (λ (m : List ℕ). Leads (ladder axes m)) (sym e)
    (⊎_elim (λ q. subst (λ (n : ℕ). Leads (ladder n (cond (n == 2) MASKS_2 MASKS_3))) (sym q) both.0)
    (λ q. subst (λ (n : ℕ). Leads (ladder n (cond (n == 2) MASKS_2 MASKS_3))) (sym q) both.1) p)
