use mathlib.Core.Path.{◌≡◌, refl}
use Prim.Native.Nat.{◌+◌, ◌-◌}
use native.Mathlib.Omega.{arith}
use Rattle.accept.proofs.DifferentLaws.{over_none, totals_first, totals_next, over_rest}
use Rattle.accept.specs.Limit.{hit}
use Rattle.accept.proofs.FirstLaws.{hit_most}
use Rattle.accept.proofs.heavy_pairs.Goals as goal

pub loop-init : goal.loop-init
loop-init c = let e : c.args.n - 0 ≡ c.args.n = omega arith in rw e (c.requires, omega arith, λ y r k x. x)

pub int_total-t-requires : goal.int_total-t-requires
int_total-t-requires c = (totals_first c.args.walk.now.set.now c.args.walk.now.work.now c.loop.next (c.args.n - c.loop.counter) c.args.walk.now.ints (omega (arith, c.loop-test.true)) c.loop.invariant.0)

pub overflow_add-heavy : goal.overflow_add-heavy
overflow_add-heavy c = omega (arith, (totals_next c.args.walk.now.set.now c.args.walk.now.work.now c.loop.next (c.args.n - c.loop.counter) c.args.walk.now.ints (omega (arith, c.loop-test.true)) _ _ _ c.int_total-t.ensures c.loop.invariant.0).1, c.loop.invariant.1)

pub loop-preserved : goal.loop-preserved
loop-preserved c = let e : c.args.n - (c.loop.counter + 1) ≡ c.args.n - c.loop.counter - 1 = omega arith in rw e (let q = totals_next c.args.walk.now.set.now c.args.walk.now.work.now c.loop.next (c.args.n - c.loop.counter) c.args.walk.now.ints (omega (arith, c.loop-test.true)) _ _ _ c.int_total-t.ensures c.loop.invariant.0 in (q.0, omega (arith, c.max-top.ensures, q.1, c.loop.invariant.1), λ y r k x. c.loop.invariant.2 y r k (over_rest c.args.walk.now.set.now c.args.walk.now.work.now c.loop.next (c.args.n - c.loop.counter) c.args.walk.now.ints (omega (arith, c.loop-test.true)) _ _ _ c.int_total-t.ensures c.loop.top _ c.loop.heavy _ (hit c.loop.refusal) _ refl c.max-top.ensures c.first-refusal.ensures y r k x)))

pub returns : goal.returns
returns c = c.loop.invariant.2 _ _ _ (over_none c.args.walk.now.set.now c.args.walk.now.work.now c.loop.next (c.args.n - c.loop.counter) c.args.walk.now.ints c.loop.top c.loop.heavy (hit c.loop.refusal) (omega (arith, c.loop-test.false)) (hit_most c.loop.refusal))
