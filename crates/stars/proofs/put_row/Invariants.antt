use Prim.Native.Nat.{◌+◌, ◌-◌, ◌*◌}
use mathlib.Core.List.{[]}
use lib.ListN.{drop}
use Rattle.walk.specs.Item.{extra}
use Rattle.sorting.specs.Rows.{row_at}
use Rattle.sorting.specs.Columns.{vars_of}
use Rattle.stars.specs.Lines.{row_lines}
use Rattle.stars.specs.Stars.{RowAt}
use Rattle.stars.proofs.Laws.{Rest}
use Rattle.stars.proofs.put_row.Given as goal

abbrev pub invariant-loop-i : goal.invariant-loop-i
invariant-loop-i l = RowAt l.work (l.a + l.i) (l.n - l.i) (l.cols + 3 * l.i) × Rest l.initial.out l.o l.c (row_lines (extra l.mode l.m [] l.j) (vars_of l.n (drop l.cols l.work)) (row_at l.n l.a l.work)) (row_lines (extra l.mode l.m [] l.j) (vars_of (l.n - l.i) (drop (l.cols + 3 * l.i) l.work)) (row_at (l.n - l.i) (l.a + l.i) l.work)) l.out l.q l.d
