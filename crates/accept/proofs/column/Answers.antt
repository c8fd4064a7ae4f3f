use native.Mathlib.Omega.{arith}
use Rattle.accept.proofs.TestLaws.{column_root, column_done}
use Rattle.accept.proofs.column.Goals as goal

pub overflow_sub-a : goal.overflow_sub-a
overflow_sub-a c = omega (arith, (column_root c.args.walk.now.set.now c.args.walk.now.work.now c.args.at c.args.walk.now.ints _ _ _ c.int_total-a.ensures c.requires).1)

pub root-own-requires : goal.root-own-requires
root-own-requires c = ((column_root c.args.walk.now.set.now c.args.walk.now.work.now c.args.at c.args.walk.now.ints _ _ _ c.int_total-a.ensures c.requires).0)

pub returns : goal.returns
returns c = column_done c.args.walk.now.set.now c.args.walk.now.work.now c.args.at c.args.walk.now.ints _ _ _ c.int_total-a.ensures _ _ c.root-own.ensures c.first-refusal.ensures
