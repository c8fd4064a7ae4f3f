-- A comparison for each variable; Writing carries those left.
use Prim.Native.Nat.{◌-◌}
use Rattle.differing.proofs.Literals.{Writing}
use Rattle.differing.proofs.put_literals.Given as goal

abbrev pub invariant-loop : goal.invariant-loop
invariant-loop l = Writing l.work l.at l.count l.x l.initial.out l.o l.out l.p l.q (l.count - l.counter)
