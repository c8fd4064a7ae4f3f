-- The loop stops where the answer is too long; Rows carries the clauses of the rows left.
use Rattle.differing.proofs.Loops.{Rows}
use Rattle.differing.proofs.put_pairs.Given as goal

abbrev pub invariant-loop-rest : goal.invariant-loop-rest
invariant-loop-rest l = Rows l.work l.n l.at l.count l.initial.out l.o l.k l.out l.p l.q l.c l.rest
