-- `grid::inner::write_node` meets its contract: each store leaves the length.
use Rattle.std.proofs.Common.{refl, arith, length-set}
use Rattle.grid.specs.Nodes.{put_node}
use Rattle.grid.proofs.inner.write_node.Goals as goal

pub bounds-nf-at-2 : goal.bounds-nf-at-2
bounds-nf-at-2 c = simp length-set (omega arith)

pub bounds-nf-at-3 : goal.bounds-nf-at-3
bounds-nf-at-3 c = simp length-set (omega arith)

pub bounds-nf-at-4 : goal.bounds-nf-at-4
bounds-nf-at-4 c = simp length-set (omega arith)

pub bounds-nf-at-5 : goal.bounds-nf-at-5
bounds-nf-at-5 c = simp length-set (omega arith)

pub bounds-nf-at-6 : goal.bounds-nf-at-6
bounds-nf-at-6 c = simp length-set (omega arith)

pub bounds-nf-at-7 : goal.bounds-nf-at-7
bounds-nf-at-7 c = simp length-set (omega arith)

pub returns : goal.returns
unfolding put_node
returns c = refl
