-- The loop stops where the answer is too long; Valuing carries the clauses of the values left.
use native.Mathlib.Omega.{arith}
use mir.Syntax.{w32}
use mir.Val.{SFits}
use mir.Facts.{to_z-of_z}
use Rattle.differing.proofs.Candidates.{has_value}
use Rattle.differing.proofs.Literals.{valuing_start, valuing_next, valuing_end, valuing_stop}
use borrow.Author.Rules.{rules}
use Rattle.differing.proofs.put_each.Lts
use Rattle.differing.proofs.put_each.Tie
use Rattle.differing.proofs.put_each.Reads
use Rattle.differing.proofs.put_each.Goals as goal

abbrev After-value_at : Type 0
After-value_at = Lts.After-value_at Tie.the-claims Reads.Pre Reads.Post goal.the-invariant-loop-i goal.the-decreases-loop-i

value-fits : (c : After-value_at) → SFits w32 c.value_at-x.result
value-fits c = search rules

pub loop-i-init : goal.loop-i-init
loop-i-init c = valuing_start c.args.set.now c.args.work.now c.args.at c.args.count c.args.d c.args.out.now c.args.o c.args.k c.requires.2

pub shape_of-out-then-q-eq-CAP : goal.shape_of-out-then-q-eq-CAP
shape_of-out-then-q-eq-CAP c = c.loop-i.invariant.same

pub returns-then-q-eq-CAP : goal.returns-then-q-eq-CAP
returns-then-q-eq-CAP c = valuing_stop c.args.set.now c.args.work.now c.args.at c.args.count c.args.d c.args.out.now c.args.o c.args.k c.loop-i.invariant c.if-q-eq-CAP.true

pub value_at-x-requires : goal.value_at-x-requires
value_at-x-requires c = has_value c.loop-i.i c.requires.1 c.loop-i-test.true

pub put_value-q-requires : goal.put_value-q-requires
put_value-q-requires c = (c.requires.0, rw (to_z-of_z (value-fits c.before)) c.value_at-x.ensures.plain, c.loop-i.invariant.behind.room)

pub overflow_add-c : goal.overflow_add-c
overflow_add-c c = omega (arith, c.loop-i.invariant.behind.low, c.loop-i.invariant.behind.room.low)

pub loop-i-preserved : goal.loop-i-preserved
loop-i-preserved c = valuing_next c.args.set.now c.args.work.now c.args.at c.args.count c.args.d c.args.out.now c.args.o c.args.k c.loop-i.invariant c.requires.0 c.loop-i-test.true c.if-q-eq-CAP.false c.value_at-x.ensures (to_z-of_z (value-fits c.before.before.before)) c.put_value-q.ensures

pub shape_of-out : goal.shape_of-out
shape_of-out c = c.loop-i.invariant.same

pub returns : goal.returns
returns c = valuing_end c.args.set.now c.args.work.now c.args.at c.args.count c.args.d c.args.out.now c.args.o c.args.k c.loop-i.invariant c.loop-i-test.false
