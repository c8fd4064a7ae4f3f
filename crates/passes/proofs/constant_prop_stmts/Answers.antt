use native.Mathlib.Omega.{arith}
use Prim.Native.Nat.{◌+◌, ◌-◌}
use mathlib.Core.Path.{refl, ◌∙◌, ◌≡◌}
use Rattle.passes.proofs.PropStmtLaws.{stmts_none, stmt_stands, stmts_stand, stmts_more, status_start, status_next, status_end}
use Rattle.passes.proofs.constant_prop_stmts.Goals as goal

pub loop-init : goal.loop-init
loop-init c = let e : c.args.count - 0 ≡ c.args.count = omega arith in rw e (refl, c.requires, λ out' s p. status_start _ _ _ _ _ p)

pub prop_stmt-a-requires : goal.prop_stmt-a-requires
prop_stmt-a-requires c = stmt_stands _ _ _ (omega arith) c.loop.invariant.1

pub loop-preserved : goal.loop-preserved
loop-preserved c = let e : c.args.count - (c.loop.counter + 1) ≡ c.args.count - c.loop.counter - 1 = omega arith in rw e (c.prop_stmt-a.auto.work ∙ c.loop.invariant.0, stmts_stand _ _ _ (omega arith) _ _ _ c.prop_stmt-a.ensures c.loop.invariant.1, λ out' s p. status_next _ _ _ _ _ _ _ _ c.worst-status.ensures (c.loop.invariant.2 out' _ (stmts_more _ _ _ (omega arith) _ _ _ c.prop_stmt-a.ensures _ _ p)))

pub shape_of-work : goal.shape_of-work
shape_of-work c = c.loop.invariant.0

pub returns : goal.returns
returns c = status_end _ _ _ _ _ (c.loop.invariant.2 _ _ (stmts_none _ _ _ (omega arith)))
