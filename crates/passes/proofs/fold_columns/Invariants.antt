use mathlib.Core.Path.{◌≡◌}
use mathlib.Core.List.{List}
use Prim.Native.Nat.{ℕ, ◌-◌}
use lib.IntN.{ℤ}
use lib.ListN.{length}
use Rattle.passes.specs.Statements.{ReadyColumns, ColumnsPost}
use Rattle.passes.proofs.fold_columns.Given as goal

abbrev pub invariant-loop : goal.invariant-loop
invariant-loop l = (length l.work ≡ length l.initial.work) × ReadyColumns l.words l.d l.next (l.n - l.counter) l.work l.end × ((out' : List ℤ) (next' end' : ℕ) → ColumnsPost l.words l.d l.next (l.n - l.counter) l.work l.end out' next' end' → ColumnsPost l.words l.d l.at l.n l.initial.work l.o out' next' end')
