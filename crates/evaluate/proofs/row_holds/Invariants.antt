use mathlib.Core.Bool.{Bool}
use Prim.Native.Nat.{◌+◌, ◌-◌}
use Rattle.evaluate.specs.Contract.{ReadyRow, RowPost}
use Rattle.evaluate.proofs.row_holds.Given as goal

abbrev pub invariant-loop-i : goal.invariant-loop-i
invariant-loop-i l = ReadyRow l.set (l.at + l.i) (l.n - l.i) l.work l.i × ((r : Bool) → RowPost l.set (l.at + l.i) (l.n - l.i) l.work l.i r → RowPost l.set l.at l.n l.work 0 r)
