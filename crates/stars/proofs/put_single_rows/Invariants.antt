use Prim.Native.Nat.{◌+◌, ◌-◌, ◌*◌}
use lib.ListN.{drop}
use Rattle.sorting.specs.Rows.{rows_of}
use Rattle.sorting.specs.Columns.{vars_of}
use Rattle.rows.specs.Emit.{linears_words}
use Rattle.stars.specs.Lines.{single_linears}
use Rattle.stars.specs.Stars.{RowsAt}
use Rattle.stars.proofs.Laws.{Left}
use Rattle.stars.proofs.put_single_rows.Given as goal

abbrev pub invariant-loop-i : goal.invariant-loop-i
invariant-loop-i l = RowsAt l.work (l.at + l.i * l.n) l.n (l.k - l.i) l.cols × Left l.initial.out l.o (linears_words (single_linears (vars_of l.n (drop l.cols l.work)) (rows_of l.n l.k (drop l.at l.work)))) (linears_words (single_linears (vars_of l.n (drop l.cols l.work)) (rows_of l.n (l.k - l.i) (drop (l.at + l.i * l.n) l.work)))) l.out l.q
