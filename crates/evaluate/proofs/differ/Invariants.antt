use mathlib.Core.Bool.{Bool}
use Prim.Native.Nat.{◌-◌}
use Rattle.evaluate.specs.Contract.{WordsAt, DifferPost}
use Rattle.evaluate.proofs.differ.Given as goal

abbrev pub invariant-loop-i : goal.invariant-loop-i
invariant-loop-i l = WordsAt l.work l.i (l.n - l.i) × ((r : Bool) → DifferPost l.work l.i (l.n - l.i) r → DifferPost l.work 0 l.n r)
