-- The loop stops where the answer is too long; Rows carries the clauses of the rows left.
use native.Mathlib.Omega.{arith}
use Rattle.differing.proofs.Loops.{rows_start, rows_row, rows_next, rows_end, rows_stop}
use Rattle.differing.proofs.put_pairs.Goals as goal

pub loop-rest-init : goal.loop-rest-init
loop-rest-init c = rows_start c.args.work.now c.args.n c.args.at c.args.count c.args.out.now c.args.o c.args.k c.requires.0 c.requires.1

pub shape_of-out-then-q-eq-CAP : goal.shape_of-out-then-q-eq-CAP
shape_of-out-then-q-eq-CAP c = c.loop-rest.invariant.same

pub returns-then-q-eq-CAP : goal.returns-then-q-eq-CAP
returns-then-q-eq-CAP c = rows_stop c.args.work.now c.args.n c.args.at c.args.count c.args.out.now c.args.o c.args.k c.loop-rest.invariant c.if-q-eq-CAP.true

pub end_of-next-requires : goal.end_of-next-requires
end_of-next-requires c = (c.loop-rest.invariant.left.size, c.loop-rest.invariant.left.place)

pub put_row-w-requires : goal.put_row-w-requires
put_row-w-requires c = (rows_row c.args.work.now c.args.n c.args.at c.args.count c.args.out.now c.args.o c.args.k _ c.loop-rest.invariant (omega arith) c.end_of-next.ensures.0 c.end_of-next.ensures.1, c.loop-rest.invariant.behind)

pub loop-rest-preserved : goal.loop-rest-preserved
loop-rest-preserved c = rows_next c.args.work.now c.args.n c.args.at c.args.count c.args.out.now c.args.o c.args.k _ c.loop-rest.invariant (omega arith) c.end_of-next.ensures.0 c.end_of-next.ensures.1 c.put_row-w.ensures

pub shape_of-out : goal.shape_of-out
shape_of-out c = c.loop-rest.invariant.same

pub returns : goal.returns
returns c = rows_end c.args.work.now c.args.n c.args.at c.args.count c.args.out.now c.args.o c.args.k _ c.loop-rest.invariant (omega arith)
