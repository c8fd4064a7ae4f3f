use Prim.Native.Nat.{ℕ, ◌-◌}
use mathlib.Core.Path.{◌≡◌}
use mathlib.Core.List.{List}
use lib.IntN.{ℤ}
use lib.ListN.{length}
use Rattle.evaluate.specs.Contract.{ReadyColumns, ColumnsPost}
use Rattle.evaluate.proofs.column_values.Given as goal

abbrev pub invariant-loop-i : goal.invariant-loop-i
invariant-loop-i l = ReadyColumns l.set l.values l.nb l.next (l.n - l.i) l.work l.i × (length l.work ≡ length l.initial.work) × ((work' : List ℤ) (next' : ℕ) → ColumnsPost l.set l.values l.nb l.next (l.n - l.i) l.work l.i work' next' → ColumnsPost l.set l.values l.nb l.at l.n l.initial.work 0 work' next')
