use mathlib.Core.Path.{◌≡◌}
use mathlib.Core.List.{List}
use Prim.Native.Nat.{ℕ, ◌-◌}
use lib.IntN.{ℤ}
use lib.ListN.{length}
use Rattle.passes.specs.Statements.{ReadyStmts, StmtsPost}
use Rattle.passes.proofs.fold_stmts.Given as goal

abbrev pub invariant-loop : goal.invariant-loop
invariant-loop l = (length l.work ≡ length l.initial.work) × ReadyStmts l.words l.d l.next (l.count - l.counter) l.work l.end × ((out' : List ℤ) (next' end' : ℕ) → StmtsPost l.words l.d l.next (l.count - l.counter) l.work l.end out' next' end' → StmtsPost l.words l.d l.at l.count l.initial.work l.o out' next' end')
