use Prim.Native.Nat.{◌-◌}
use Rattle.memory.specs.Places.{folded}
use Rattle.stages.specs.Start.{start}
use Rattle.numbering.specs.Task.{state_of}
use Rattle.setnumbers.proofs.Statements.{Walking}
use Rattle.setnumbers.proofs.number_statements.Given as goal

abbrev pub invariant-loop-q : goal.invariant-loop-q
invariant-loop-q l = Walking l.room.records l.room.cap folded l.end (start l.initial.work l.initial.out l.n) l.q (state_of l.work l.out l.c)

abbrev pub decreases-loop-q : goal.decreases-loop-q
decreases-loop-q l = l.end - l.q
