use Rattle.numbering.specs.Task.{state_of}
use Rattle.setnumbers.proofs.Numbering.{Pairs}
use Rattle.setnumbers.proofs.number_different.Given as goal

abbrev pub invariant-loop-rest : goal.invariant-loop-rest
invariant-loop-rest l = Pairs l.room.records l.room.cap l.count l.at (state_of l.initial.work l.initial.out l.initial.d) l.rest l.p (state_of l.work l.out l.d)
