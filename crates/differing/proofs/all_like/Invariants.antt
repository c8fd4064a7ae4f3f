-- One expression after the other; what is left tells what the whole tells.
use Prim.Native.Nat.{◌-◌}
use Rattle.differing.proofs.Likes.{Liking}
use Rattle.differing.proofs.all_like.Given as goal

abbrev pub invariant-loop : goal.invariant-loop
invariant-loop l = Liking l.set l.work l.at l.count l.b l.p (l.count - l.counter)
