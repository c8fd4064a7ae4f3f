use native.Mathlib.Omega.{arith}
use Rattle.accept.proofs.SetLaws.{ints_plain, few_ints, table_room, count_plain, count_inside, stmts_ready, limits_post}
use borrow.Author.Rules.{rules}
use Rattle.accept.proofs.check_limits.Goals as goal

pub number-ni-requires : goal.number-ni-requires
number-ni-requires c = ints_plain c.args.set.now c.args.work.now c.requires

pub write_bounds-at-requires : goal.write_bounds-at-requires
write_bounds-at-requires c = table_room c.args.set.now c.args.work.now c.requires _ c.number-ni.ensures.0

pub number-n-requires : goal.number-n-requires
number-n-requires c = count_plain c.args.set.now c.args.work.now c.requires _ c.number-ni.ensures.0 _ _ c.write_bounds-at.ensures

pub overflow_add-at : goal.overflow_add-at
overflow_add-at c = let q = count_inside c.args.set.now c.args.work.now c.requires _ c.number-ni.ensures.0 _ _ c.write_bounds-at.ensures in search rules

pub check-requires : goal.check-requires
check-requires c = (stmts_ready c.args.set.now c.args.work.now c.requires _ c.number-ni.ensures.0 _ _ c.write_bounds-at.ensures _ c.number-n.ensures.0, omega (arith, few_ints c.args.set.now c.args.work.now c.requires _ c.number-ni.ensures.0))

pub returns : goal.returns
returns c = limits_post c.args.set.now c.args.work.now c.requires _ c.number-ni.ensures.0 _ _ c.write_bounds-at.ensures _ c.number-n.ensures.0 _ c.check.ensures
