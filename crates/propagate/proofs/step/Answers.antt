use Rattle.propagate.proofs.WorklistLaws.{step_stands, stepped}
use Rattle.propagate.proofs.step.Goals as goal

pub prop_stmt-b-requires : goal.prop_stmt-b-requires
prop_stmt-b-requires c = step_stands _ _ _ _ _ _ c.fold_stmt-a.ensures c.fold_stmt-a.auto.work c.requires

pub returns : goal.returns
returns c = stepped _ _ _ _ _ _ c.fold_stmt-a.ensures c.fold_stmt-a.auto.work _ _ _ c.prop_stmt-b.ensures
