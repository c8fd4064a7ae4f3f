-- The loop stops where the answer is too long; Going carries the clauses of the pairs left.
use Prim.Native.Nat.{◌+◌, ◌-◌}
use mathlib.Core.Path.{◌≡◌}
use native.Mathlib.Omega.{arith}
use Rattle.differing.proofs.Loops.{going_start, going_pair, going_next, going_end, going_stop}
use Rattle.differing.proofs.put_row.Goals as goal

pub loop-init : goal.loop-init
loop-init c = let e : c.args.count - 0 ≡ c.args.count = omega arith in rw e (going_start c.args.work.now c.args.n c.args.a c.args.p c.args.count c.args.out.now c.args.o c.args.k c.requires.0 c.requires.1)

pub shape_of-out-then-q-eq-CAP : goal.shape_of-out-then-q-eq-CAP
shape_of-out-then-q-eq-CAP c = c.loop.invariant.same

pub returns-then-q-eq-CAP : goal.returns-then-q-eq-CAP
returns-then-q-eq-CAP c = going_stop c.args.work.now c.args.n c.args.a c.args.p c.args.count c.args.out.now c.args.o c.args.k c.loop.invariant c.if-q-eq-CAP.true

pub put_pair-q-requires : goal.put_pair-q-requires
put_pair-q-requires c = (going_pair c.args.work.now c.args.n c.args.a c.args.p c.args.count c.args.out.now c.args.o c.args.k c.loop.invariant (omega arith), c.loop.invariant.behind.room)

pub end_of-b-requires : goal.end_of-b-requires
end_of-b-requires c = (c.loop.invariant.left.size, c.loop.invariant.left.place)

pub overflow_add-c : goal.overflow_add-c
overflow_add-c c = omega (arith, c.loop.invariant.behind.low, c.loop.invariant.behind.room.low)

pub loop-preserved : goal.loop-preserved
loop-preserved c = let e : c.args.count - (c.loop.counter + 1) ≡ c.args.count - c.loop.counter - 1 = omega arith in rw e (going_next c.args.work.now c.args.n c.args.a c.args.p c.args.count c.args.out.now c.args.o c.args.k _ c.loop.invariant (omega arith) c.if-q-eq-CAP.false c.put_pair-q.ensures c.end_of-b.ensures.0 c.end_of-b.ensures.1)

pub shape_of-out : goal.shape_of-out
shape_of-out c = c.loop.invariant.same

pub returns : goal.returns
returns c = going_end c.args.work.now c.args.n c.args.a c.args.p c.args.count c.args.out.now c.args.o c.args.k _ c.loop.invariant (omega arith)
