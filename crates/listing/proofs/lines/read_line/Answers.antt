-- What the line says is, at each turn, the values read so far and then what the fields behind them say.
use Rattle.std.proofs.Common.{◌≡◌, ℕ, ◌<◌, length, sym, ◌∙◌, arith}
use Rattle.std.proofs.Math.ListN.{length-set, length-replicate}
use Rattle.std.proofs.Math.Seq.{take-length}
use Rattle.listing.proofs.Scanning.{other_line, begun, ahead_none, turn_none, turn_one, last}
use Rattle.listing.proofs.lines.read_line.Goals as goal

pub returns-then-not-begins : goal.returns-then-not-begins
returns-then-not-begins g c =
    let a = c.args in
    other_line a.letter a.kinds.now a.text.now (rw take-length at (sym c.begins.ensures ∙ c.if-not-begins.true))

pub loop-k-init : goal.loop-k-init
loop-k-init g c =
    let a = c.args in
    let b = begun a.letter a.kinds.now a.text.now (rw take-length at (sym c.begins.ensures ∙ c.if-not-begins.false)) in
    (omega (arith, length-replicate {A = ℕ} g.row.N 0), b.0 ∙ sym (ahead_none _))

pub returns-in_err-v : goal.returns-in_err-v
returns-in_err-v g c =
    let h : c.loop-k.k < length c.args.kinds.now = omega arith in
    c.from_residual.ensures ∙ turn_none _ _ _ _ _ _ c.loop-k.invariant.1 h (sym c.read_field.ensures ∙ c.in_err-v.was)

pub loop-k-preserved : goal.loop-k-preserved
loop-k-preserved g c =
    let h : c.loop-k.k < length c.args.kinds.now = omega arith in
    let room : c.loop-k.k < length c.loop-k.values = omega arith in
    (simp length-set c.loop-k.invariant.0, turn_one _ _ _ _ _ _ c.loop-k.invariant.1 h room (sym c.read_field.ensures ∙ c.in_ok-v.was))

pub returns : goal.returns
returns g c =
    let all : c.loop-k.k ≡ length c.args.kinds.now = omega arith in
    c.then_some.ensures ∙ last _ _ _ _ _ _ c.loop-k.invariant.1 all c.loop-k.invariant.0
