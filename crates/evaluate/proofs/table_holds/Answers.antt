use Rattle.evaluate.proofs.StmtLaws.{table_inside, table_columns, table_rows, columns_start, rows_start, table_held}
use borrow.Author.Rules.{rules}
use Rattle.evaluate.proofs.table_holds.Goals as goal

pub overflow_add-at : goal.overflow_add-at
overflow_add-at c = let q = table_inside _ _ _ _ _ c.requires.1 c.requires.0 in search rules

pub number-n-requires : goal.number-n-requires
number-n-requires c = table_columns _ _ _ _ _ c.requires.1 c.requires.0

pub overflow_add-at-2 : goal.overflow_add-at-2
overflow_add-at-2 c = let q = table_inside _ _ _ _ _ c.requires.1 c.requires.0 in search rules

pub number-k-requires : goal.number-k-requires
number-k-requires c = table_rows _ _ _ _ _ c.requires.1 c.requires.0

pub overflow_add-at-3 : goal.overflow_add-at-3
overflow_add-at-3 c = let q = table_inside _ _ _ _ _ c.requires.1 c.requires.0 in search rules

pub column_values-p-requires : goal.column_values-p-requires
column_values-p-requires c = columns_start _ _ _ _ _ c.requires.1 _ c.number-n.ensures.0 _ c.number-k.ensures.0 c.requires.0

pub rows_hold-requires : goal.rows_hold-requires
rows_hold-requires c = (rows_start _ _ _ _ _ c.requires.1 _ c.number-n.ensures.0 _ c.number-k.ensures.0 _ _ c.column_values-p.ensures c.requires.0).0

pub overflow_mul-result : goal.overflow_mul-result
overflow_mul-result c = let q = (rows_start _ _ _ _ _ c.requires.1 _ c.number-n.ensures.0 _ c.number-k.ensures.0 _ _ c.column_values-p.ensures c.requires.0).1 in search rules

pub overflow_add-result : goal.overflow_add-result
overflow_add-result c = let q = (rows_start _ _ _ _ _ c.requires.1 _ c.number-n.ensures.0 _ c.number-k.ensures.0 _ _ c.column_values-p.ensures c.requires.0).1 in search rules

pub returns : goal.returns
returns c = table_held _ _ _ _ _ c.requires.1 _ c.number-n.ensures.0 _ c.number-k.ensures.0 _ _ c.column_values-p.ensures c.requires.0.room _ c.rows_hold.ensures
