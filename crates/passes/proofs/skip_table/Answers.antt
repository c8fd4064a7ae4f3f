use native.Mathlib.Omega.{arith}
use Rattle.passes.proofs.PropStmtLaws.{header_fits, columns_word, rows_word, table_columns, table_skips, table_fits}
use Rattle.passes.proofs.skip_table.Goals as goal

pub overflow_add-at : goal.overflow_add-at
overflow_add-at c = let q = header_fits _ _ c.requires.pos_value c.requires.stands_stmt in omega (arith, c.well_formed.0.0)

pub number-n-requires : goal.number-n-requires
number-n-requires c = columns_word _ _ c.requires.pos_value c.requires.stands_stmt

pub overflow_add-at-2 : goal.overflow_add-at-2
overflow_add-at-2 c = let q = header_fits _ _ c.requires.pos_value c.requires.stands_stmt in omega (arith, c.well_formed.0.0)

pub number-k-requires : goal.number-k-requires
number-k-requires c = rows_word _ _ c.requires.pos_value c.requires.stands_stmt

pub overflow_add-at-3 : goal.overflow_add-at-3
overflow_add-at-3 c = let q = header_fits _ _ c.requires.pos_value c.requires.stands_stmt in omega (arith, c.well_formed.0.0)

pub skip_columns-m-requires : goal.skip_columns-m-requires
skip_columns-m-requires c = table_columns _ _ c.requires.pos_value _ _ c.number-n.ensures.0 c.number-k.ensures.0 c.requires.stands_stmt

pub overflow_mul-result : goal.overflow_mul-result
overflow_mul-result c = let q = (table_fits _ _ c.requires.pos_value _ _ c.number-n.ensures.0 c.number-k.ensures.0 _ c.skip_columns-m.ensures c.requires.stands_stmt) in omega (arith, c.well_formed.0.0)

pub overflow_add-result : goal.overflow_add-result
overflow_add-result c = let q = (table_fits _ _ c.requires.pos_value _ _ c.number-n.ensures.0 c.number-k.ensures.0 _ c.skip_columns-m.ensures c.requires.stands_stmt) in omega (arith, c.well_formed.0.0)

pub returns : goal.returns
returns c = table_skips _ _ c.requires.pos_value _ _ c.number-n.ensures.0 c.number-k.ensures.0 _ c.skip_columns-m.ensures
