use Prim.Native.Nat.{ℕ, ◌-◌}
use Rattle.accept.specs.Limit.{hit}
use Rattle.accept.specs.Walk.{ReadyStmts, StmtsPost}
use Rattle.accept.proofs.statements.Given as goal

abbrev pub invariant-loop : goal.invariant-loop
invariant-loop l = ReadyStmts l.walk.set.now l.walk.work.now l.next (l.n - l.counter) l.walk.ints × ((r : ℕ) → StmtsPost l.walk.set.now l.walk.work.now l.next (l.n - l.counter) l.walk.ints (hit l.refusal) r → StmtsPost l.walk.set.now l.walk.work.now l.at l.n l.walk.ints 12 r)
