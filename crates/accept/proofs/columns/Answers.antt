use mathlib.Core.Path.{◌≡◌}
use Prim.Native.Nat.{◌+◌, ◌-◌}
use native.Mathlib.Omega.{arith}
use Rattle.accept.proofs.TestLaws.{columns_none, column_first, columns_ready, columns_rest}
use Rattle.accept.specs.Limit.{hit}
use Rattle.accept.proofs.FirstLaws.{hit_most}
use Rattle.accept.proofs.columns.Goals as goal

pub loop-init : goal.loop-init
loop-init c = let e : c.args.n - 0 ≡ c.args.n = omega arith in rw e (c.requires, λ y r x. x)

pub column-t-requires : goal.column-t-requires
column-t-requires c = (column_first c.args.walk.now.set.now c.args.walk.now.work.now c.loop.next (c.args.n - c.loop.counter) c.args.walk.now.ints (omega (arith, c.loop-test.true)) c.loop.invariant.0)

pub loop-preserved : goal.loop-preserved
loop-preserved c = let e : c.args.n - (c.loop.counter + 1) ≡ c.args.n - c.loop.counter - 1 = omega arith in rw e ((columns_ready c.args.walk.now.set.now c.args.walk.now.work.now c.loop.next (c.args.n - c.loop.counter) c.args.walk.now.ints (omega (arith, c.loop-test.true)) _ _ c.column-t.ensures c.loop.invariant.0, λ y r x. c.loop.invariant.1 y r (columns_rest c.args.walk.now.set.now c.args.walk.now.work.now c.loop.next (c.args.n - c.loop.counter) c.args.walk.now.ints (omega (arith, c.loop-test.true)) _ _ c.column-t.ensures (hit c.loop.refusal) _ y r c.first-refusal.ensures x)))

pub returns : goal.returns
returns c = c.loop.invariant.1 _ _ (columns_none c.args.walk.now.set.now c.args.walk.now.work.now c.loop.next (c.args.n - c.loop.counter) c.args.walk.now.ints (hit c.loop.refusal) (omega (arith, c.loop-test.false)) (hit_most c.loop.refusal))
