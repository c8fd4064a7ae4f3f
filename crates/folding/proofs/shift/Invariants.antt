use Rattle.laws.specs.Slices.{Moving}
use Rattle.folding.proofs.shift.Given as goal

abbrev pub invariant-loop-i : goal.invariant-loop-i
invariant-loop-i l = Moving l.initial.work l.from l.to l.work l.i l.p
