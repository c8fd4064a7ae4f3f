use mathlib.Core.Path.{◌≡◌}
use Prim.Native.Nat.{◌+◌, ◌-◌}
use native.Mathlib.Omega.{arith}
use Rattle.join.proofs.NthLaws.{nth_first, nth_done, nth_ready, nth_rest}
use Rattle.join.proofs.nth.Goals as goal

pub loop-init : goal.loop-init
loop-init c = let e : c.args.k - 0 ≡ c.args.k = omega arith in rw e (c.requires.0, λ r x. x)

pub statement-next-requires : goal.statement-next-requires
statement-next-requires c = (nth_first c.args.set.now c.args.work.now c.loop.next c.args.ni _ c.loop.invariant.0, omega (arith, c.requires.1))

pub loop-preserved : goal.loop-preserved
loop-preserved c =
    let e : c.args.k - (c.loop.counter + 1) ≡ c.args.k - c.loop.counter - 1 = omega arith in
    rw e (
      nth_ready c.args.set.now c.args.work.now c.loop.next c.args.ni _ _ c.statement-next.ensures _ (omega arith) c.loop.invariant.0,
      λ r x. c.loop.invariant.1 r (nth_rest c.args.set.now c.args.work.now c.loop.next c.args.ni _ _ c.statement-next.ensures _ (omega arith) r x),
    )

pub returns : goal.returns
returns c = c.loop.invariant.1 _ (nth_done c.args.set.now c.args.work.now c.loop.next c.args.ni _ (omega arith))
