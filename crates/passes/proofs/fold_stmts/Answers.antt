use native.Mathlib.Omega.{arith}
use Prim.Native.Nat.{◌+◌, ◌-◌}
use mathlib.Core.Path.{refl, ◌∙◌, ◌≡◌}
use Rattle.passes.proofs.StmtLaws.{stmts_none, stmt_ready, stmts_ready, stmts_more}
use Rattle.passes.proofs.fold_stmts.Goals as goal

pub loop-init : goal.loop-init
loop-init c = let e : c.args.count - 0 ≡ c.args.count = omega arith in rw e (refl, c.requires, λ out' next' end' p. p)

pub fold_stmt-a-requires : goal.fold_stmt-a-requires
fold_stmt-a-requires c = stmt_ready _ _ _ _ _ _ (omega arith) c.loop.invariant.1

pub loop-preserved : goal.loop-preserved
loop-preserved c = let e : c.args.count - (c.loop.counter + 1) ≡ c.args.count - c.loop.counter - 1 = omega arith in rw e (c.fold_stmt-a.auto.work ∙ c.loop.invariant.0, stmts_ready _ _ _ _ _ _ (omega arith) _ _ _ c.fold_stmt-a.ensures c.loop.invariant.1 c.fold_stmt-a.auto.work, λ out' next' end' p. c.loop.invariant.2 out' next' end' (stmts_more _ _ _ _ _ _ (omega arith) _ _ _ c.fold_stmt-a.ensures _ _ _ c.loop.invariant.1 p))

pub shape_of-work : goal.shape_of-work
shape_of-work c = c.loop.invariant.0

pub returns : goal.returns
returns c = c.loop.invariant.2 _ _ _ (stmts_none _ _ _ _ _ _ (omega arith))
