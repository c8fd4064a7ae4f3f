use Prim.Native.Nat.{◌-◌}
use Rattle.tablewriter.proofs.Storing.{Storing}
use Rattle.tablewriter.proofs.describe_columns.Given as goal

abbrev pub invariant-loop : goal.invariant-loop
invariant-loop l = Storing l.set l.initial.work l.at l.count l.initial.q l.initial.e l.work l.p l.e l.q (l.count - l.counter)
