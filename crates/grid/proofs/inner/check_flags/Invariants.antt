-- `grid::inner::check_flags` meets its contract: before place k every word is a flag.
use Rattle.std.specs.Prelude.{◌≡◌, Bool, not, List, ℕ, ◌-◌, length, get_or}
use Rattle.grid.specs.Answers.{refuse, first_of}
use Rattle.grid.specs.Table.{is_flag}
use Rattle.grid.specs.declared.Rule.TheVariants.{Code}
use Rattle.grid.proofs.inner.check_flags.Given as goal

abbrev pub bad : List ℕ → ℕ → Bool
bad ws k = not (is_flag (get_or ws k 0))

abbrev pub invariant-loop-k : goal.invariant-loop-k
invariant-loop-k l = first_of (λ j. refuse (bad l.words j) Code j) 0 (length l.words) ≡ first_of (λ j. refuse (bad l.words j) Code j) l.k (length l.words - l.k)
