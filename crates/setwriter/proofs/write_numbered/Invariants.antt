use mathlib.Core.Bool.{Bool}
use mathlib.Core.List.{List}
use Prim.Native.Nat.{◌-◌}
use Rattle.syntax.specs.Syntax.{Stmt, Problem}
use Rattle.fold.specs.Fold.{Fixed}
use Rattle.setwriter.specs.Again.{Starts}
use Rattle.setwriter.proofs.Again.{low, Sofar}
use Rattle.setwriter.proofs.write_numbered.Given as goal

abbrev pub invariant-loop-q : goal.invariant-loop-q
invariant-loop-q l = (merge : Bool) (it : Problem) (f : Fixed) (ss : List Stmt) (h : Starts merge it f ss l.set l.initial.work l.end l.room l.from l.initial.out l.o) → Sofar merge it f ss l.initial.work l.end l.room (low h) l.initial.out l.o l.work l.out l.q l.c l.p l.k

abbrev pub decreases-loop-q : goal.decreases-loop-q
decreases-loop-q l = l.end - l.q
