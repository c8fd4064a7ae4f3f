use mathlib.Core.Path.{◌∙◌}
use native.Mathlib.Omega.{arith}
use Rattle.passes.proofs.StmtLaws.{table_room, columns_word, rows_word, table_columns, table_rows, table_folds}
use Rattle.passes.proofs.fold_table.Goals as goal

pub overflow_add-at : goal.overflow_add-at
overflow_add-at c = let q = (table_room _ _ _ _ _ c.requires.pos_value c.requires.ready_stmt) in omega (arith, c.well_formed.0.0)

pub number-n-requires : goal.number-n-requires
number-n-requires c = columns_word _ _ _ _ _ c.requires.pos_value c.requires.ready_stmt

pub overflow_add-at-2 : goal.overflow_add-at-2
overflow_add-at-2 c = let q = (table_room _ _ _ _ _ c.requires.pos_value c.requires.ready_stmt) in omega (arith, c.well_formed.0.0)

pub number-k-requires : goal.number-k-requires
number-k-requires c = rows_word _ _ _ _ _ c.requires.pos_value c.requires.ready_stmt

pub put-requires : goal.put-requires
put-requires c = let q = (table_room _ _ _ _ _ c.requires.pos_value c.requires.ready_stmt) in (omega arith, omega arith)

pub overflow_add-o : goal.overflow_add-o
overflow_add-o c = let q = (table_room _ _ _ _ _ c.requires.pos_value c.requires.ready_stmt) in omega (arith, c.well_formed.1.1.1.0.0)

pub put_two-m-requires : goal.put_two-m-requires
put_two-m-requires c = let q = (table_room _ _ _ _ _ c.requires.pos_value c.requires.ready_stmt) in (omega (arith, c.put.auto.work), c.number-n.ensures.1, c.number-k.ensures.1)

pub overflow_add-at-3 : goal.overflow_add-at-3
overflow_add-at-3 c = let q = (table_room _ _ _ _ _ c.requires.pos_value c.requires.ready_stmt) in omega (arith, c.well_formed.0.0)

pub fold_columns-a-requires : goal.fold_columns-a-requires
fold_columns-a-requires c = table_columns _ _ _ _ _ c.requires.pos_value _ _ c.number-n.ensures.0 c.number-k.ensures.0 _ c.put.ensures _ _ c.put_two-m.ensures c.requires.ready_stmt (c.put_two-m.auto.work ∙ c.put.auto.work)

pub overflow_mul-cells : goal.overflow_mul-cells
overflow_mul-cells c = let t = (table_rows _ _ _ _ _ c.requires.pos_value _ _ c.number-n.ensures.0 c.number-k.ensures.0 _ c.put.ensures _ _ c.put_two-m.ensures _ _ _ c.fold_columns-a.ensures c.requires.ready_stmt (c.fold_columns-a.auto.work ∙ c.put_two-m.auto.work ∙ c.put.auto.work)) in omega (arith, c.well_formed.0.0)

pub copy_words-end-requires : goal.copy_words-end-requires
copy_words-end-requires c = (table_rows _ _ _ _ _ c.requires.pos_value _ _ c.number-n.ensures.0 c.number-k.ensures.0 _ c.put.ensures _ _ c.put_two-m.ensures _ _ _ c.fold_columns-a.ensures c.requires.ready_stmt (c.fold_columns-a.auto.work ∙ c.put_two-m.auto.work ∙ c.put.auto.work))

pub overflow_add-result : goal.overflow_add-result
overflow_add-result c = let t = (table_rows _ _ _ _ _ c.requires.pos_value _ _ c.number-n.ensures.0 c.number-k.ensures.0 _ c.put.ensures _ _ c.put_two-m.ensures _ _ _ c.fold_columns-a.ensures c.requires.ready_stmt (c.fold_columns-a.auto.work ∙ c.put_two-m.auto.work ∙ c.put.auto.work)) in omega (arith, c.well_formed.0.0)

pub shape_of-work : goal.shape_of-work
shape_of-work c = c.copy_words-end.auto.work ∙ c.fold_columns-a.auto.work ∙ c.put_two-m.auto.work ∙ c.put.auto.work

pub returns : goal.returns
returns c = table_folds _ _ _ _ _ c.requires.pos_value _ _ c.number-n.ensures.0 c.number-k.ensures.0 _ c.put.ensures _ _ c.put_two-m.ensures _ _ _ c.fold_columns-a.ensures _ _ c.requires.ready_stmt c.copy_words-end.ensures
