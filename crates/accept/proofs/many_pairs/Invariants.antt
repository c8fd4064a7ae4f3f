use mathlib.Core.Bool.{Bool}
use Prim.Native.Nat.{◌-◌}
use Rattle.accept.specs.Walk.{ReadySplit, CrowdedPost}
use Rattle.accept.proofs.many_pairs.Given as goal

abbrev pub invariant-loop-k : goal.invariant-loop-k
invariant-loop-k l = ReadySplit l.walk.set.now l.at l.n l.next (l.n - l.k) l.walk.ints × ((r : Bool) → CrowdedPost l.walk.set.now l.at l.n l.next (l.n - l.k) l.walk.ints r → CrowdedPost l.walk.set.now l.at l.n l.at l.n l.walk.ints r)
