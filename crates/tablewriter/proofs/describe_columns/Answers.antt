use mathlib.Core.Path.{◌≡◌}
use Prim.Native.Nat.{◌+◌, ◌-◌}
use native.Mathlib.Omega.{arith}
use Rattle.tablewriter.proofs.Storing.{storing_start, storing_column, storing_next, storing_size, storing_end}
use Rattle.tablewriter.proofs.describe_columns.Goals as goal

pub loop-init : goal.loop-init
loop-init c = let e : c.args.count - 0 ≡ c.args.count = omega arith in rw e (storing_start c.args.set.now c.args.work.now c.args.at c.args.count c.args.to c.args.n c.requires)

pub describe_column-s-requires : goal.describe_column-s-requires
describe_column-s-requires c = storing_column c.args.set.now c.args.work.now c.args.at c.args.count c.args.to c.args.n _ _ _ _ _ c.loop.invariant (omega arith)

pub overflow_add-q : goal.overflow_add-q
overflow_add-q c = omega (arith, c.loop.invariant.place, c.loop.invariant.room, c.loop.invariant.counted)

pub loop-preserved : goal.loop-preserved
loop-preserved c =
    let e : c.args.count - (c.loop.counter + 1) ≡ c.args.count - c.loop.counter - 1 = omega arith in
    rw e (storing_next c.args.set.now c.args.work.now c.args.at c.args.count c.args.to c.args.n _ _ _ _ _ _ c.describe_column-s.ensures _ c.loop.invariant (omega arith))

pub shape_of-work : goal.shape_of-work
shape_of-work c = storing_size c.args.set.now c.args.work.now c.args.at c.args.count c.args.to c.args.n _ _ _ _ c.loop.invariant

pub returns : goal.returns
returns c = storing_end c.args.set.now c.args.work.now c.args.at c.args.count c.args.to c.args.n _ _ _ _ _ c.loop.invariant (omega arith)
