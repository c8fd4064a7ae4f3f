-- The loop stops where the answer is too long; Valuing carries the clauses of the values left.
use Rattle.differing.proofs.Literals.{Valuing}
use Rattle.differing.proofs.put_each.Given as goal

abbrev pub invariant-loop-i : goal.invariant-loop-i
invariant-loop-i l = Valuing l.set l.work l.at l.count l.d l.initial.out l.o l.k l.out l.i l.q l.c
