-- The loop stops where the walk is full; Going carries what is left.
use Prim.Native.Nat.{◌-◌}
use Rattle.numbering.specs.Task.{state_of}
use Rattle.differing.proofs.Rewriting.{RowGoing}
use Rattle.differing.proofs.rewrite_row.Given as goal

abbrev pub invariant-loop : goal.invariant-loop
invariant-loop l = RowGoing l.room.records l.room.cap l.p l.count l.at (state_of l.initial.work l.initial.none l.initial.d) l.initial.out l.o l.k (l.count - l.counter) l.b (state_of l.work l.none l.d) l.out l.q l.m
