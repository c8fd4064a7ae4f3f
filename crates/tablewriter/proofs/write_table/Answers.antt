use mathlib.Core.Path.{ap}
use mathlib.Core.List.{[]}
use Prim.Native.Nat.{ℕ}
use native.Mathlib.Omega.{arith}
use Rattle.walks.specs.Item.{counters}
use Rattle.output.proofs.Laws.{open_next}
use Rattle.tablewriter.proofs.Rows.{table_placed, some_inside}
use Rattle.tablewriter.proofs.Tables.{some_under, some_fit, some_rows, table_did}
use Rattle.tablewriter.proofs.write_table.Goals as goal

pub overflow_add-at : goal.overflow_add-at
overflow_add-at c = omega (arith, some_under c.requires.0)

pub overflow_add-at-2 : goal.overflow_add-at-2
overflow_add-at-2 c = omega (arith, some_under c.requires.0)

pub overflow_add-at-3 : goal.overflow_add-at-3
overflow_add-at-3 c = omega (arith, some_under c.requires.0)

pub put_columns-e-requires : goal.put_columns-e-requires
put_columns-e-requires c = (table_placed c.requires.0.it, some_fit c.word-c.ensures c.word-rows.ensures c.requires.0, c.requires.1.room, omega (arith, c.requires.1.low, c.requires.1.room.low))

pub table_fresh-f-requires : goal.table_fresh-f-requires
table_fresh-f-requires c = omega (arith, some_inside (some_rows c.word-c.ensures c.word-rows.ensures c.requires.0 c.put_columns-e.ensures), c.requires.0.it.size)

pub write_rows-r-requires : goal.write_rows-r-requires
write_rows-r-requires c = (some_rows c.word-c.ensures c.word-rows.ensures c.requires.0 c.put_columns-e.ensures, record { room = open_next c.requires.1.room (c.put_columns-e.ensures.wrote []); low = omega (arith, c.lesser-j.ensures) })

pub overflow_mul-result : goal.overflow_mul-result
overflow_mul-result c = omega (arith, some_inside (some_rows c.word-c.ensures c.word-rows.ensures c.requires.0 c.put_columns-e.ensures))

pub overflow_add-result : goal.overflow_add-result
overflow_add-result c = omega (arith, some_inside (some_rows c.word-c.ensures c.word-rows.ensures c.requires.0 c.put_columns-e.ensures))

pub returns : goal.returns
returns c = λ x h. table_did h c.word-c.ensures c.word-rows.ensures c.put_columns-e.ensures c.table_fresh-f.ensures c.requires.1.low c.requires.1.room.room c.lesser-j.ensures c.write_rows-r.ensures (ap (λ (b : ℕ). counters b c.put_columns-e.result.n.ints) c.bump.ensures)
