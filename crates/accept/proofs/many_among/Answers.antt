use mathlib.Core.Path.{◌≡◌}
use Prim.Native.Nat.{◌+◌, ◌-◌}
use native.Mathlib.Omega.{arith}
use Rattle.accept.proofs.DifferentLaws.{among_none, among_first, among_behind, among_inside, among_next, among_hit, among_rest}
use Rattle.accept.proofs.many_among.Goals as goal

pub skip_int-end-requires : goal.skip_int-end-requires
skip_int-end-requires c = among_first c.args.walk.now.set.now c.args.a c.args.words c.loop.next (c.args.n - c.loop.counter) c.args.walk.now.ints (omega (arith, c.loop-test.true)) c.loop.invariant.0

pub overflow_sub-end : goal.overflow_sub-end
overflow_sub-end c = omega (arith, (among_inside c.args.walk.now.set.now c.args.a c.args.words c.loop.next (c.args.n - c.loop.counter) c.args.walk.now.ints (omega (arith, c.loop-test.true)) _ c.skip_int-end.ensures c.loop.invariant.0).0)

pub overflow_add-words : goal.overflow_add-words
overflow_add-words c = let q = among_inside c.args.walk.now.set.now c.args.a c.args.words c.loop.next (c.args.n - c.loop.counter) c.args.walk.now.ints (omega (arith, c.loop-test.true)) _ c.skip_int-end.ensures c.loop.invariant.0 in omega (arith, q.0, q.1, q.2)

pub many_comparison-requires : goal.many_comparison-requires
many_comparison-requires c = let q = among_behind c.args.walk.now.set.now c.args.a c.args.words c.loop.next (c.args.n - c.loop.counter) c.args.walk.now.ints (omega (arith, c.loop-test.true)) c.loop.invariant.0 in (q.0, q.1)

pub returns-then-many_comparison : goal.returns-then-many_comparison
returns-then-many_comparison c = c.loop.invariant.1 _ (among_hit c.args.walk.now.set.now c.args.a c.args.words c.loop.next (c.args.n - c.loop.counter) c.args.walk.now.ints (omega (arith, c.loop-test.true)) _ c.skip_int-end.ensures _ c.many_comparison.ensures c.if-many_comparison.true)

pub loop-preserved : goal.loop-preserved
loop-preserved c = let e : c.args.n - (c.loop.counter + 1) ≡ c.args.n - c.loop.counter - 1 = omega arith in rw e ((among_next c.args.walk.now.set.now c.args.a c.args.words c.loop.next (c.args.n - c.loop.counter) c.args.walk.now.ints (omega (arith, c.loop-test.true)) _ c.skip_int-end.ensures c.loop.invariant.0, λ r x. c.loop.invariant.1 r (among_rest c.args.walk.now.set.now c.args.a c.args.words c.loop.next (c.args.n - c.loop.counter) c.args.walk.now.ints (omega (arith, c.loop-test.true)) _ c.skip_int-end.ensures _ c.many_comparison.ensures c.if-many_comparison.false r x)))

pub returns : goal.returns
returns c = c.loop.invariant.1 _ (among_none c.args.walk.now.set.now c.args.a c.args.words c.loop.next (c.args.n - c.loop.counter) c.args.walk.now.ints (omega (arith, c.loop-test.false)))
