use mathlib.Core.Bool.{Bool}
use Prim.Native.Nat.{◌-◌}
use Rattle.evaluate.specs.Contract.{ReadyRows, RowsPost}
use Rattle.evaluate.proofs.rows_hold.Given as goal

abbrev pub invariant-loop : goal.invariant-loop
invariant-loop l = ReadyRows l.set l.p l.n (l.k - l.counter) l.work × ((r : Bool) → RowsPost l.set l.p l.n (l.k - l.counter) l.work r → RowsPost l.set l.at l.n l.k l.work r)
