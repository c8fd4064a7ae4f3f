use native.Mathlib.Omega.{arith}
use Rattle.stmtwords.proofs.Words.{table_inside, table_stop, table_room}
use Rattle.setnumbers.proofs.Tables.{columns_asks, table_done}
use Rattle.setnumbers.proofs.number_table.Goals as goal

pub overflow_add-at : goal.overflow_add-at
overflow_add-at c = omega (arith, table_inside _ _ c.requires.table)

pub overflow_add-at-2 : goal.overflow_add-at-2
overflow_add-at-2 c = omega (arith, table_inside _ _ c.requires.table)

pub overflow_add-at-3 : goal.overflow_add-at-3
overflow_add-at-3 c = omega (arith, table_inside _ _ c.requires.table)

pub number_columns-r-requires : goal.number_columns-r-requires
number_columns-r-requires c = (table_inside _ _ c.requires.table, columns_asks _ _ _ _ _ c.word-n.ensures c.requires)

pub table_fresh-f-requires : goal.table_fresh-f-requires
table_fresh-f-requires c = let t = c.requires.table in omega (arith, c.requires.asks.long, c.number_columns-r.ensures.0.kept.size, table_room _ _ t.columns t.cells t.stands _ _ _ c.word-n.ensures c.word-k.ensures c.number_columns-r.ensures.1)

pub overflow_mul-result : goal.overflow_mul-result
overflow_mul-result c = let t = c.requires.table in omega (arith, table_room _ _ t.columns t.cells t.stands _ _ _ c.word-n.ensures c.word-k.ensures c.number_columns-r.ensures.1)

pub overflow_add-result : goal.overflow_add-result
overflow_add-result c = let t = c.requires.table in omega (arith, table_room _ _ t.columns t.cells t.stands _ _ _ c.word-n.ensures c.word-k.ensures c.number_columns-r.ensures.1)

pub shape_of-work : goal.shape_of-work
shape_of-work c = c.number_columns-r.ensures.0.kept.size

pub shape_of-out : goal.shape_of-out
shape_of-out c = c.number_columns-r.ensures.0.kept.room

pub returns : goal.returns
returns c = (table_done _ _ _ _ _ c.word-n.ensures _ _ c.word-k.ensures c.number_columns-r.ensures.1 _ _ _ c.table_fresh-f.ensures c.number_columns-r.ensures.0 c.bump.ensures, (c.number_columns-r.ensures.0.kept.size, c.number_columns-r.ensures.0.kept.room), λ es rows h. table_stop _ _ es rows h _ _ _ c.word-n.ensures c.word-k.ensures c.number_columns-r.ensures.1)
