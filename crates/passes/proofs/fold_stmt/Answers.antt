use native.Mathlib.Omega.{arith}
use mathlib.Core.Path.{◌∙◌}
use Rattle.passes.proofs.StmtLaws.{stmt_room, stmt_first, rule_ready, rule_folds, code_is, ready_different}
use Rattle.passes.proofs.fold_stmt.Goals as goal

pub number-w-requires : goal.number-w-requires
number-w-requires c = stmt_first _ _ _ _ _ c.requires

pub put-requires : goal.put-requires
put-requires c = let q = stmt_room _ _ _ _ _ c.requires in (omega arith, omega arith)

pub overflow_add-at : goal.overflow_add-at
overflow_add-at c = let q = stmt_room _ _ _ _ _ c.requires in omega (arith, c.well_formed.0.0)

pub overflow_add-o : goal.overflow_add-o
overflow_add-o c = let q = stmt_room _ _ _ _ _ c.requires in omega (arith, c.well_formed.1.1.1.0.0)

pub constant_folding_bool-f-requires : goal.constant_folding_bool-f-requires
constant_folding_bool-f-requires c = rule_ready _ _ _ _ _ _ c.number-w.ensures.0 c.if-w-eq1.true _ c.put.ensures c.requires

pub shape_of-work-then-w-eq1 : goal.shape_of-work-then-w-eq1
shape_of-work-then-w-eq1 c = c.constant_folding_bool-f.auto.work ∙ c.put.auto.work

pub returns-then-w-eq1 : goal.returns-then-w-eq1
returns-then-w-eq1 c = rule_folds _ _ _ _ _ _ c.number-w.ensures.0 c.if-w-eq1.true _ c.put.ensures _ _ _ _ c.requires c.constant_folding_bool-f.ensures

pub fold_table-requires : goal.fold_table-requires
fold_table-requires c = record { ready_stmt = c.requires; pos_value = code_is c.args.words.now c.args.at _ _ c.number-w.ensures.0 c.if-w-eq2.true }

pub shape_of-work-then-w-eq2 : goal.shape_of-work-then-w-eq2
shape_of-work-then-w-eq2 c = c.fold_table.auto.work

pub returns-then-w-eq2 : goal.returns-then-w-eq2
returns-then-w-eq2 c = c.fold_table.ensures

pub fold_different-requires : goal.fold_different-requires
fold_different-requires c = record { ready_stmt = c.requires; pos_value = ready_different _ _ _ _ _ _ c.number-w.ensures.0 c.if-w-eq1.false c.if-w-eq2.false c.requires }

pub shape_of-work : goal.shape_of-work
shape_of-work c = c.fold_different.auto.work

pub returns : goal.returns
returns c = c.fold_different.ensures
