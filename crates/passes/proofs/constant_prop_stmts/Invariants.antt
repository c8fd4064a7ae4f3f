use mathlib.Core.Path.{◌≡◌}
use mathlib.Core.List.{List}
use Prim.Native.Nat.{ℕ, ◌-◌}
use lib.IntN.{ℤ}
use lib.ListN.{length}
use Rattle.passes.specs.Want.{worst_num, rank}
use Rattle.passes.specs.Statements.{StandStmts, PropStmtsPost}
use Rattle.passes.proofs.constant_prop_stmts.Given as goal

abbrev pub invariant-loop : goal.invariant-loop
invariant-loop l = (length l.work ≡ length l.initial.work) × StandStmts l.work l.next (l.count - l.counter) × ((out' : List ℤ) (s : ℕ) → PropStmtsPost l.work l.next (l.count - l.counter) out' s → PropStmtsPost l.initial.work l.at l.count out' (worst_num (rank l.status) s))
