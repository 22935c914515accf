-- `grid::inner::fits` meets its contract.
use Rattle.std.proofs.Common.{◌≡◌, sym, ◌*◌, ◌%◌, mul-zero, arith, ne_eqb}
use Rattle.grid.proofs.Lengths.{whole, quotient}
use Rattle.grid.proofs.inner.fits.Goals as goal

pub returns-then-each-eq0 : goal.returns-then-each-eq0
returns-then-each-eq0 c = rw (c.if-each-eq0.true, mul-zero)

pub returns-then-len-each-ne0 : goal.returns-then-len-each-ne0
returns-then-len-each-ne0 c =
    let a = c.args in
    sym (ne_eqb a.len (a.count * a.each) (λ e. let z : a.len % a.each ≡ 0 = rw e (whole a.count a.each) in omega (arith, z)))

pub returns : goal.returns
returns c = let a = c.args in quotient a.len a.count a.each (omega arith) c.if-len-each-ne0.false
