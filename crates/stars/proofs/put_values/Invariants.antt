use Prim.Native.Nat.{◌+◌, ◌-◌, ◌*◌}
use lib.ListN.{drop}
use Rattle.sorting.specs.Rows.{row_at}
use Rattle.sorting.specs.Columns.{vars_of}
use Rattle.rows.specs.Emit.{linears_words}
use Rattle.stars.specs.Lines.{row_linears}
use Rattle.stars.specs.Stars.{RowAt}
use Rattle.stars.proofs.Laws.{Left}
use Rattle.stars.proofs.put_values.Given as goal

abbrev pub invariant-loop-j : goal.invariant-loop-j
invariant-loop-j l = RowAt l.work (l.a + l.j) (l.n - l.j) (l.cols + 3 * l.j) × Left l.initial.out l.o (linears_words (row_linears (vars_of l.n (drop l.cols l.work)) (row_at l.n l.a l.work))) (linears_words (row_linears (vars_of (l.n - l.j) (drop (l.cols + 3 * l.j) l.work)) (row_at (l.n - l.j) (l.a + l.j) l.work))) l.out l.q
