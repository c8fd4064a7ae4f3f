-- The loop stops where the answer is too long; Going carries the clauses of the pairs left.
use Prim.Native.Nat.{◌-◌}
use Rattle.differing.proofs.Loops.{Going}
use Rattle.differing.proofs.put_row.Given as goal

abbrev pub invariant-loop : goal.invariant-loop
invariant-loop l = Going l.work l.n l.a l.p l.count l.initial.out l.o l.k l.out l.b l.q l.c (l.count - l.counter)
