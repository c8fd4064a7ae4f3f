use native.Mathlib.Omega.{arith}
use Prim.Native.Nat.{◌+◌, ◌-◌}
use mathlib.Core.Path.{refl, ◌∙◌, ◌≡◌}
use Rattle.passes.proofs.StmtLaws.{columns_none, column_ready, columns_ready, columns_more}
use Rattle.passes.proofs.fold_columns.Goals as goal

pub loop-init : goal.loop-init
loop-init c = let e : c.args.n - 0 ≡ c.args.n = omega arith in rw e (refl, c.requires, λ out' next' end' p. p)

pub constant_folding_int-a-requires : goal.constant_folding_int-a-requires
constant_folding_int-a-requires c = column_ready _ _ _ _ _ _ (omega arith) c.loop.invariant.1

pub loop-preserved : goal.loop-preserved
loop-preserved c = let e : c.args.n - (c.loop.counter + 1) ≡ c.args.n - c.loop.counter - 1 = omega arith in rw e (c.constant_folding_int-a.auto.work ∙ c.loop.invariant.0, columns_ready _ _ _ _ _ _ (omega arith) _ _ _ c.constant_folding_int-a.ensures c.loop.invariant.1 c.constant_folding_int-a.auto.work, λ out' next' end' p. c.loop.invariant.2 out' next' end' (columns_more _ _ _ _ _ _ (omega arith) _ _ _ c.constant_folding_int-a.ensures _ _ _ c.loop.invariant.1 p))

pub shape_of-work : goal.shape_of-work
shape_of-work c = c.loop.invariant.0

pub returns : goal.returns
returns c = c.loop.invariant.2 _ _ _ (columns_none _ _ _ _ _ _ (omega arith))
