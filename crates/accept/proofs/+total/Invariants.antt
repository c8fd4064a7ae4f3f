use Prim.Native.Nat.{ℕ}
use Prim.Native.Nat.{◌+◌, ◌-◌, ◌*◌, ◌≤◌}
use lib.ListN.{length}
use Rattle.limits.specs.Total.{cap}
use Rattle.accept.specs.Limit.{hit}
use Rattle.accept.specs.Walk.{ReadyTerms, TermsPost, ReadyBools, BoolsPost}
use Rattle.accept.proofs.+total.Given as goal

abbrev pub decreases-comparison : goal.decreases-comparison
decreases-comparison l = 3 * (length l.walk.now.set.now - l.at) + 3

abbrev pub decreases-deep_total : goal.decreases-deep_total
decreases-deep_total l = 3 * (length l.walk.now.set.now - l.at) + 1

abbrev pub decreases-if_total : goal.decreases-if_total
decreases-if_total l = 3 * (length l.walk.now.set.now - l.at)

abbrev pub decreases-int_total : goal.decreases-int_total
decreases-int_total l = 3 * (length l.walk.now.set.now - l.at) + 2

abbrev pub decreases-rule_step : goal.decreases-rule_step
decreases-rule_step l = 3 * (length l.walk.now.set.now - l.at) + 1

abbrev pub decreases-rules : goal.decreases-rules
decreases-rules l = 3 * (length l.walk.now.set.now - l.at) + 2

abbrev pub decreases-terms_total : goal.decreases-terms_total
decreases-terms_total l = 3 * (length l.walk.now.set.now - l.at)

abbrev pub invariant-rules-loop-rest : goal.invariant-rules-loop-rest
invariant-rules-loop-rest l = ReadyBools l.walk.set.now l.walk.work.now l.next l.rest l.walk.ints × (l.at ≤ l.next) × ((y r : ℕ) → BoolsPost l.walk.set.now l.walk.work.now l.next l.rest l.walk.ints (hit l.refusal) y r → BoolsPost l.walk.set.now l.walk.work.now l.at l.n l.walk.ints 12 y r)

abbrev pub decreases-rules-loop-rest : goal.decreases-rules-loop-rest
decreases-rules-loop-rest l = length l.walk.set.now - l.next

abbrev pub invariant-terms_total-loop : goal.invariant-terms_total-loop
invariant-terms_total-loop l = ReadyTerms l.walk.set.now l.walk.work.now l.next (l.terms - l.counter) l.walk.ints × (l.at ≤ l.next) × (l.total ≤ cap) × ((y t k : ℕ) → TermsPost l.walk.set.now l.walk.work.now l.next (l.terms - l.counter) l.walk.ints l.total (hit l.refusal) y t k → TermsPost l.walk.set.now l.walk.work.now l.at l.terms l.walk.ints 0 12 y t k)
