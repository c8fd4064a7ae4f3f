use Rattle.numbering.specs.Equal.{Sofar}
use Rattle.numbering.proofs.same_words.Given as goal

abbrev pub invariant-loop-i : goal.invariant-loop-i
invariant-loop-i l = Sofar l.work l.p l.q l.n l.i
