use mathlib.Core.Path.{◌≡◌}
use Prim.Native.Nat.{◌+◌, ◌-◌}
use native.Mathlib.Omega.{arith}
use Rattle.accept.proofs.DifferentLaws.{pairs_none, pairs_first, pairs_beside, pairs_next, pairs_hit, pairs_rest}
use Rattle.accept.proofs.many_pairs.Goals as goal

pub skip_int-end-requires : goal.skip_int-end-requires
skip_int-end-requires c = pairs_first c.args.walk.now.set.now c.args.at c.args.n c.loop-k.next (c.args.n - c.loop-k.k) c.args.walk.now.ints (omega (arith, c.loop-k-test.true)) c.loop-k.invariant.0

pub many_beside-requires : goal.many_beside-requires
many_beside-requires c = let d : c.args.n - (c.args.n - c.loop-k.k) ≡ c.loop-k.k = omega (arith, c.loop-k-test.true) in let b = rw d at (pairs_beside c.args.walk.now.set.now c.args.at c.args.n c.loop-k.next (c.args.n - c.loop-k.k) c.args.walk.now.ints (omega (arith, c.loop-k-test.true)) _ c.skip_int-end.ensures c.loop-k.invariant.0) in (b)

pub returns-then-many_beside : goal.returns-then-many_beside
returns-then-many_beside c = let d : c.args.n - (c.args.n - c.loop-k.k) ≡ c.loop-k.k = omega (arith, c.loop-k-test.true) in c.loop-k.invariant.1 _ (pairs_hit c.args.walk.now.set.now c.args.at c.args.n c.loop-k.next (c.args.n - c.loop-k.k) c.args.walk.now.ints (omega (arith, c.loop-k-test.true)) _ c.skip_int-end.ensures _ (rw d c.many_beside.ensures) c.if-many_beside.true)

pub loop-k-preserved : goal.loop-k-preserved
loop-k-preserved c = let d : c.args.n - (c.args.n - c.loop-k.k) ≡ c.loop-k.k = omega (arith, c.loop-k-test.true) in let e : c.args.n - (c.loop-k.k + 1) ≡ c.args.n - c.loop-k.k - 1 = omega arith in rw e ((pairs_next c.args.walk.now.set.now c.args.at c.args.n c.loop-k.next (c.args.n - c.loop-k.k) c.args.walk.now.ints (omega (arith, c.loop-k-test.true)) _ c.skip_int-end.ensures c.loop-k.invariant.0, λ r x. c.loop-k.invariant.1 r (pairs_rest c.args.walk.now.set.now c.args.at c.args.n c.loop-k.next (c.args.n - c.loop-k.k) c.args.walk.now.ints (omega (arith, c.loop-k-test.true)) _ c.skip_int-end.ensures _ (rw d c.many_beside.ensures) c.if-many_beside.false r x)))

pub returns : goal.returns
returns c = c.loop-k.invariant.1 _ (pairs_none c.args.walk.now.set.now c.args.at c.args.n c.loop-k.next (c.args.n - c.loop-k.k) c.args.walk.now.ints (omega (arith, c.loop-k-test.false)))
