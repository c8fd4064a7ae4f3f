use native.Mathlib.Omega.{arith}
use mathlib.Core.Path.{◌∙◌}
use Rattle.passes.proofs.StmtLaws.{stmt_room, different_word, different_columns, different_folds}
use Rattle.passes.proofs.fold_different.Goals as goal

pub overflow_add-at : goal.overflow_add-at
overflow_add-at c = let q = stmt_room _ _ _ _ _ c.requires.ready_stmt in omega (arith, c.well_formed.0.0)

pub number-n-requires : goal.number-n-requires
number-n-requires c = different_word _ _ _ _ _ c.requires.pos_value c.requires.ready_stmt

pub put_two-m-requires : goal.put_two-m-requires
put_two-m-requires c = let q = stmt_room _ _ _ _ _ c.requires.ready_stmt in (omega arith, omega arith, c.number-n.ensures.1)

pub overflow_add-at-2 : goal.overflow_add-at-2
overflow_add-at-2 c = let q = stmt_room _ _ _ _ _ c.requires.ready_stmt in omega (arith, c.well_formed.0.0)

pub fold_columns-requires : goal.fold_columns-requires
fold_columns-requires c = different_columns _ _ _ _ _ c.requires.pos_value _ c.number-n.ensures.0 _ _ c.put_two-m.ensures c.requires.ready_stmt c.put_two-m.auto.work

pub shape_of-work : goal.shape_of-work
shape_of-work c = c.fold_columns.auto.work ∙ c.put_two-m.auto.work

pub returns : goal.returns
returns c = different_folds _ _ _ _ _ c.requires.pos_value _ c.number-n.ensures.0 _ _ c.put_two-m.ensures _ _ _ c.requires.ready_stmt c.fold_columns.ensures
