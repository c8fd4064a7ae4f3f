-- The loop stops where the walk is full; Going carries what is left.
use Rattle.numbering.specs.Task.{state_of}
use Rattle.differing.proofs.Rewriting.{PairsGoing}
use Rattle.differing.proofs.rewrite_pairs.Given as goal

abbrev pub invariant-loop-rest : goal.invariant-loop-rest
invariant-loop-rest l = PairsGoing l.room.records l.room.cap l.count l.at (state_of l.initial.work l.initial.none l.initial.d) l.initial.out l.o l.k l.rest l.p (state_of l.work l.none l.d) l.out l.q l.m
