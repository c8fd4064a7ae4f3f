use Prim.Native.Nat.{ℕ, ◌-◌}
use Rattle.accept.specs.Limit.{hit}
use Rattle.accept.specs.Walk.{ReadyColumns, ColumnsPost}
use Rattle.accept.proofs.columns.Given as goal

abbrev pub invariant-loop : goal.invariant-loop
invariant-loop l = ReadyColumns l.walk.set.now l.walk.work.now l.next (l.n - l.counter) l.walk.ints × ((y r : ℕ) → ColumnsPost l.walk.set.now l.walk.work.now l.next (l.n - l.counter) l.walk.ints (hit l.refusal) y r → ColumnsPost l.walk.set.now l.walk.work.now l.at l.n l.walk.ints 12 y r)
