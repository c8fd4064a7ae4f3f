use mathlib.Core.Bool.{Bool}
use Prim.Native.Nat.{◌+◌, ◌-◌}
use Rattle.evaluate.specs.Contract.{ReadyDomains, InsidePost}
use Rattle.evaluate.proofs.ints_inside.Given as goal

abbrev pub invariant-loop-q : goal.invariant-loop-q
invariant-loop-q l = ReadyDomains l.set l.next (l.p + l.n - l.q) l.values l.q × ((r : Bool) → InsidePost l.set l.next (l.p + l.n - l.q) l.values l.q r → InsidePost l.set l.at l.n l.values l.p r)
