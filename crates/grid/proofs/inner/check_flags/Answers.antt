-- `grid::inner::check_flags` meets its contract: before place k every word is a flag.
use Rattle.std.proofs.Common.{arith, ◌≡◌, true, false, not, length, get_or, sym, ap, ◌∙◌}
use Rattle.std.proofs.lemmas.Bool.{le-leb, lt-leb}
use Rattle.grid.specs.Table.{flags}
use Rattle.grid.specs.declared.Rule.TheVariants.{Code}
use Rattle.grid.proofs.Answers.{stop_at, go_on, none_left}
use Rattle.grid.proofs.inner.check_flags.Invariants.{bad}
use Rattle.grid.proofs.inner.check_flags.Goals as goal

pub returns-then-word-gt1 : goal.returns-then-word-gt1
unfolding flags
returns-then-word-gt1 c =
    let ws = c.args.words.now in
    let k = c.loop-k.k in
    let t : bad ws k ≡ true = ap not (lt-leb (get_or ws k 0) 1 (omega arith)) in
    sym (c.loop-k.invariant ∙ stop_at (bad ws) Code (length ws) k (omega arith) t)

pub loop-k-preserved : goal.loop-k-preserved
loop-k-preserved c =
    let ws = c.args.words.now in
    let k = c.loop-k.k in
    let t : bad ws k ≡ false = ap not (le-leb (get_or ws k 0) 1 (omega arith)) in
    c.loop-k.invariant ∙ go_on (bad ws) Code (length ws) k (omega arith) t

pub returns : goal.returns
unfolding flags
returns c = let ws = c.args.words.now in sym (c.loop-k.invariant ∙ none_left (bad ws) Code (length ws) c.loop-k.k (omega arith))
