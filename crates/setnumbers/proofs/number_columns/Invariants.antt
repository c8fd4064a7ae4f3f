use Prim.Native.Nat.{◌-◌}
use Rattle.numbering.specs.Task.{state_of}
use Rattle.setnumbers.proofs.Numbering.{Columns}
use Rattle.setnumbers.proofs.number_columns.Given as goal

abbrev pub invariant-loop : goal.invariant-loop
invariant-loop l = Columns l.room.records l.room.cap l.count l.at (state_of l.initial.work l.initial.out l.initial.d) (l.count - l.counter) l.q (state_of l.work l.out l.d)
