use Rattle.memory.proofs.Laws.{Copying}
use Rattle.memory.proofs.copy_words.Given as goal

abbrev pub invariant-loop-k : goal.invariant-loop-k
invariant-loop-k l = Copying l.words l.at l.initial.work l.o l.work l.k
