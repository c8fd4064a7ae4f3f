use Prim.Native.Nat.{◌-◌}
use Rattle.tablewriter.proofs.Puts.{Going}
use Rattle.tablewriter.proofs.put_columns.Given as goal

abbrev pub invariant-loop : goal.invariant-loop
invariant-loop l = Going l.work l.at l.count l.initial.e l.initial.out l.o l.k l.out l.p l.e l.q l.c (l.count - l.counter)
