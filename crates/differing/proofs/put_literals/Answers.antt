-- A comparison for each variable; Writing carries those left.
use Prim.Native.Nat.{◌+◌, ◌-◌}
use mathlib.Core.Path.{◌≡◌}
use mathlib.Core.Path.{refl}
use native.Mathlib.Omega.{arith}
use mir.Syntax.{w32}
use mir.Val.{of_z, to_z}
use mir.Facts.{to_z-of_z}
use Rattle.differing.proofs.Literals.{writing_start, writing_inside, writing_index, writing_next, writing_end}
use Rattle.differing.proofs.put_literals.Goals as goal

pub loop-init : goal.loop-init
loop-init c = let e : c.args.count - 0 ≡ c.args.count = omega arith in rw e (writing_start c.args.work.now c.args.at c.args.count (to_z w32 (of_z w32 c.args.x)) c.args.out.now c.args.o c.requires.0 c.requires.2)

pub overflow_add-p : goal.overflow_add-p
overflow_add-p c = omega (arith, writing_inside c.args.work.now c.args.at c.args.count (to_z w32 (of_z w32 c.args.x)) c.args.out.now c.args.o c.loop.invariant (omega arith))

pub number_at-n-requires : goal.number_at-n-requires
number_at-n-requires c = writing_index c.args.work.now c.args.at c.args.count (to_z w32 (of_z w32 c.args.x)) c.args.out.now c.args.o c.loop.invariant (omega arith) c.word-v.ensures

pub put_cmp-q-requires : goal.put_cmp-q-requires
put_cmp-q-requires c = (c.loop.invariant.room, c.number_at-n.ensures.1, rw (to_z-of_z c.ranges.x) c.requires.1)

pub overflow_add-p-in-loop : goal.overflow_add-p-in-loop
overflow_add-p-in-loop c = omega (arith, writing_inside c.args.work.now c.args.at c.args.count (to_z w32 (of_z w32 c.args.x)) c.args.out.now c.args.o c.loop.invariant (omega arith))

pub loop-preserved : goal.loop-preserved
loop-preserved c = let e : c.args.count - (c.loop.counter + 1) ≡ c.args.count - c.loop.counter - 1 = omega arith in rw e (writing_next c.args.work.now c.args.at c.args.count (to_z w32 (of_z w32 c.args.x)) c.args.out.now c.args.o c.loop.invariant (omega arith) c.word-v.ensures c.number_at-n.ensures.0 refl c.put_cmp-q.ensures)

pub shape_of-out : goal.shape_of-out
shape_of-out c = c.loop.invariant.same

pub returns : goal.returns
returns c = writing_end c.args.work.now c.args.at c.args.count (to_z w32 (of_z w32 c.args.x)) c.args.out.now c.args.o c.loop.invariant (omega arith) (to_z-of_z c.ranges.x)
