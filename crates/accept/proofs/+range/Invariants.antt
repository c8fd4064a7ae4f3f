use Prim.Native.Nat.{ℕ}
use Prim.Native.Nat.{◌+◌, ◌-◌, ◌*◌, ◌≤◌}
use lib.IntN.{ℤ, pos}
use lib.ListN.{length}
use Rattle.accept.specs.Walk.{ReadyRanges, RangesPost}
use Rattle.accept.proofs.+range.Given as goal

abbrev pub decreases-if_range : goal.decreases-if_range
decreases-if_range l = 2 * (length l.walk.now.set.now - l.at)

abbrev pub decreases-int_range : goal.decreases-int_range
decreases-int_range l = 2 * (length l.walk.now.set.now - l.at) + 1

abbrev pub decreases-terms_range : goal.decreases-terms_range
decreases-terms_range l = 2 * (length l.walk.now.set.now - l.at) + 2

abbrev pub invariant-terms_range-loop : goal.invariant-terms_range-loop
invariant-terms_range-loop l = ReadyRanges l.walk.set.now l.walk.work.now l.next (l.n - l.counter) l.low l.high × (l.at ≤ l.next) × ((next' : ℕ) (low' high' : ℤ) → RangesPost l.walk.set.now l.walk.work.now l.next (l.n - l.counter) l.low l.high next' low' high' → RangesPost l.walk.set.now l.walk.work.now l.at l.n (pos 0) (pos 0) next' low' high')
