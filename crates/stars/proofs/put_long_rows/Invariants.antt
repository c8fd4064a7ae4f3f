use Prim.Native.Nat.{◌+◌, ◌-◌, ◌*◌, ◌≤◌}
use lib.ListN.{drop}
use Rattle.sorting.specs.Rows.{rows_of}
use Rattle.sorting.specs.Columns.{vars_of}
use Rattle.stars.specs.Lines.{long_lines}
use Rattle.stars.specs.Stars.{RowsAt}
use Rattle.stars.proofs.Laws.{Rest}
use Rattle.stars.proofs.put_long_rows.Given as goal

abbrev pub invariant-loop-i : goal.invariant-loop-i
invariant-loop-i l = RowsAt l.work (l.at + l.i * l.n) l.n (l.k - l.i) l.cols × (l.j ≤ l.i) × Rest l.initial.out l.o l.c (long_lines l.mode l.m (vars_of l.n (drop l.cols l.work)) (rows_of l.n l.k (drop l.at l.work)) 0) (long_lines l.mode l.m (vars_of l.n (drop l.cols l.work)) (rows_of l.n (l.k - l.i) (drop (l.at + l.i * l.n) l.work)) l.j) l.out l.q l.d
