-- Value by value; what is left tells what the whole tells.
use Prim.Native.Nat.{◌≤◌}
use Rattle.differing.proofs.Candidates.{SameFrom}
use Rattle.differing.proofs.same_values.Given as goal

abbrev pub invariant-loop-k : goal.invariant-loop-k
invariant-loop-k l = (l.k ≤ l.n) × SameFrom l.set l.d l.b l.n l.k
