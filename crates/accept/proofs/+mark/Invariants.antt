use Prim.Native.Nat.{ℕ}
use Rattle.syntax.specs.Words.{max_ints}
use Prim.Native.Nat.{◌+◌, ◌-◌, ◌*◌, ◌≤◌}
use mathlib.Core.Path.{◌≡◌}
use mathlib.Core.Bool.{Bool}
use mathlib.Core.List.{List}
use lib.ListN.{length}
use Rattle.accept.specs.Walk.{WrittenPost}
use Rattle.accept.proofs.CountLaws.{Pending, PendingPost, Counted}
use Rattle.accept.proofs.+mark.Given as goal

abbrev pub decreases-mark_head : goal.decreases-mark_head
decreases-mark_head l = 2 * (length l.set.now - l.at)

abbrev pub decreases-mark_written : goal.decreases-mark_written
decreases-mark_written l = 2 * (length l.set.now - l.at) + 1

abbrev pub invariant-mark_written-loop-rest : goal.invariant-mark_written-loop-rest
invariant-mark_written-loop-rest l = (l.at ≤ l.next + 1) × Pending l.set l.next l.rest l.n × (length l.marks ≡ max_ints) × Counted l.initial.marks l.marks l.n l.count l.at l.next × ((m : List Bool) (y r : ℕ) → PendingPost l.set l.next l.rest l.n l.marks m y r → WrittenPost l.set l.at l.n l.initial.marks m y (l.count + r))

abbrev pub decreases-mark_written-loop-rest : goal.decreases-mark_written-loop-rest
decreases-mark_written-loop-rest l = length l.set - l.next
