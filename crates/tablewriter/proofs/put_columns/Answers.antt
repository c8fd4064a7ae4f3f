use mathlib.Core.Path.{◌≡◌}
use Prim.Native.Nat.{◌+◌, ◌-◌}
use native.Mathlib.Omega.{arith}
use Rattle.tablewriter.proofs.Puts.{going_start, going_fits, going_next, going_end}
use Rattle.tablewriter.proofs.put_columns.Goals as goal

pub loop-init : goal.loop-init
loop-init c = let e : c.args.count - 0 ≡ c.args.count = omega arith in rw e (going_start c.args.work.now c.args.at c.args.count c.args.n c.args.out.now c.args.o c.args.k c.requires.0 c.requires.1 c.requires.2 c.requires.3)

pub put_column-s-requires : goal.put_column-s-requires
put_column-s-requires c = (c.loop.invariant.placed, going_fits c.args.work.now c.args.at c.args.count c.args.n c.args.out.now c.args.o c.args.k _ _ _ _ _ _ c.loop.invariant (omega arith), c.loop.invariant.room)

pub loop-preserved : goal.loop-preserved
loop-preserved c =
    let e : c.args.count - (c.loop.counter + 1) ≡ c.args.count - c.loop.counter - 1 = omega arith in
    rw e (going_next c.args.work.now c.args.at c.args.count c.args.n c.args.out.now c.args.o c.args.k _ _ _ _ _ _ c.loop.invariant _ _ c.put_column-s.ensures (omega arith))

pub shape_of-out : goal.shape_of-out
shape_of-out c = c.loop.invariant.same

pub returns : goal.returns
returns c = going_end c.args.work.now c.args.at c.args.count c.args.n c.args.out.now c.args.o c.args.k _ _ _ _ _ _ c.loop.invariant (omega arith)
