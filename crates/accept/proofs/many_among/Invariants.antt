use Prim.Native.Nat.{◌-◌}
use mathlib.Core.Bool.{Bool}
use Rattle.accept.specs.Walk.{ReadyAmong, AmongPost}
use Rattle.accept.proofs.many_among.Given as goal

abbrev pub invariant-loop : goal.invariant-loop
invariant-loop l = ReadyAmong l.walk.set.now l.a l.words l.next (l.n - l.counter) l.walk.ints × ((r : Bool) → AmongPost l.walk.set.now l.a l.words l.next (l.n - l.counter) l.walk.ints r → AmongPost l.walk.set.now l.a l.words l.at l.n l.walk.ints r)
