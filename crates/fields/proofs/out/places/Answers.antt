use Rattle.std.proofs.Common.{suc, ◌<◌, ◌≤◌, ◌*◌, ◌^◌, sym, arith}
use Rattle.std.proofs.Math.Nat.{pow-suc}
use Rattle.fields.proofs.Forth.{places_between}
use Rattle.fields.proofs.Writing.{places_one}
use Rattle.fields.proofs.out.places.Goals as goal

pub returns-in-Some : goal.returns-in-Some
returns-in-Some c =
    let n = c.args.n in
    let k = c.in-Some.k in
    let low : 10 ^ k ≤ n = grind arith in
    let high : n < 10 * 10 ^ k = grind arith in
    let more : n < 10 ^ suc k = rw pow-suc (omega arith) in
    let same : n ≤ n = omega arith in
    omega (arith, places_between k n n low more same)

pub returns-in-None : goal.returns-in-None
returns-in-None c = let small : c.args.n < 10 = grind arith in sym (places_one c.args.n c.args.n small)
