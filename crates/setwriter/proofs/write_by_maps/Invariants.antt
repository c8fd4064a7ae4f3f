use mathlib.Core.Bool.{Bool}
use mathlib.Core.List.{List}
use Prim.Native.Nat.{◌-◌}
use Rattle.syntax.specs.Syntax.{Stmt, Problem}
use Rattle.fold.specs.Fold.{Fixed}
use Rattle.setwriter.specs.Step.{AllMapped}
use Rattle.setwriter.proofs.ByMaps.{Sofar}
use Rattle.setwriter.proofs.write_by_maps.Given as goal

abbrev pub invariant-loop-q : goal.invariant-loop-q
invariant-loop-q l = (merge : Bool) (it : Problem) (f : Fixed) (ss : List Stmt) (h : AllMapped merge it f ss l.set l.initial.work l.end l.from l.initial.out l.o) → Sofar l.initial.work l.initial.out l.o h.rec h.cap merge it f ss l.end l.work l.out l.q l.n l.p l.k

abbrev pub decreases-loop-q : goal.decreases-loop-q
decreases-loop-q l = l.end - l.q
