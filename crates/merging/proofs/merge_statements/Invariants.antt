use Prim.Native.Nat.{◌-◌}
use Rattle.merging.proofs.Loop.{Sofar}
use Rattle.merging.proofs.merge_statements.Given as goal

abbrev pub invariant-loop-q : goal.invariant-loop-q
invariant-loop-q l = Sofar l.initial.work l.end l.work l.n l.q

abbrev pub decreases-loop-q : goal.decreases-loop-q
decreases-loop-q l = l.end - l.q
