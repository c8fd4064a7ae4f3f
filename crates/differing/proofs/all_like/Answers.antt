-- One expression after the other; what is left tells what the whole tells.
use Prim.Native.Nat.{◌+◌, ◌-◌}
use mathlib.Core.Path.{◌≡◌}
use native.Mathlib.Omega.{arith}
use Rattle.differing.proofs.Likes.{liking_start, some_one, place_small, liking_next, liking_not, liking_end}
use Rattle.differing.proofs.all_like.Goals as goal

pub loop-init : goal.loop-init
loop-init c = let e : c.args.count - 0 ≡ c.args.count = omega arith in rw e (liking_start c.requires.0)

pub is_like-requires : goal.is_like-requires
is_like-requires c = (some_one c.args.set.now c.args.work.now _ _ (omega arith) c.loop.invariant.left, c.requires.1)

pub overflow_add-p : goal.overflow_add-p
overflow_add-p c = omega (arith, place_small c.args.set.now c.args.work.now _ _ (omega arith) c.loop.invariant.left)

pub loop-preserved : goal.loop-preserved
loop-preserved c = let e : c.args.count - (c.loop.counter + 1) ≡ c.args.count - c.loop.counter - 1 = omega arith in rw e (liking_next c.loop.invariant (omega arith) c.is_like.ensures c.if-not-is_like.false c.requires.1)

pub returns-then-not-is_like : goal.returns-then-not-is_like
returns-then-not-is_like c = liking_not c.loop.invariant (omega arith) c.is_like.ensures c.if-not-is_like.true

pub returns : goal.returns
returns c = liking_end c.loop.invariant (omega arith)
