use Prim.Native.Nat.{ℕ, ◌+◌, ◌-◌, ◌*◌, ◌≤◌}
use mathlib.Core.Bool.{Bool}
use lib.IntN.{ℤ, pos}
use lib.ListN.{length}
use Rattle.evaluate.specs.Contract.{ReadyTerms, TermsPost, ReadyMembers, MembersPost}
use Rattle.evaluate.proofs.+holds.Given as goal

abbrev pub decreases-bool_holds : goal.decreases-bool_holds
decreases-bool_holds l = 3 * (length l.set.now - l.at) + 1

abbrev pub decreases-comparison_holds : goal.decreases-comparison_holds
decreases-comparison_holds l = 3 * (length l.set.now - l.at)

abbrev pub decreases-if_value : goal.decreases-if_value
decreases-if_value l = 3 * (length l.set.now - l.at)

abbrev pub decreases-int_value : goal.decreases-int_value
decreases-int_value l = 3 * (length l.set.now - l.at) + 1

abbrev pub decreases-members_hold : goal.decreases-members_hold
decreases-members_hold l = 3 * (length l.set.now - l.at) + 2

abbrev pub decreases-terms_value : goal.decreases-terms_value
decreases-terms_value l = 3 * (length l.set.now - l.at)

abbrev pub invariant-members_hold-loop-rest : goal.invariant-members_hold-loop-rest
invariant-members_hold-loop-rest l = ReadyMembers l.set l.values l.nb l.next l.rest × (l.at ≤ l.next) × ((next' : ℕ) (h : Bool) → MembersPost l.set l.values l.nb l.next l.rest l.stop next' h → MembersPost l.set l.values l.nb l.at l.n l.stop next' h)

abbrev pub invariant-terms_value-loop : goal.invariant-terms_value-loop
invariant-terms_value-loop l = ReadyTerms l.set l.values l.nb l.next (l.n - l.counter) l.value × (l.at ≤ l.next) × ((next' : ℕ) (x' : ℤ) → TermsPost l.set l.values l.nb l.next (l.n - l.counter) l.value next' x' → TermsPost l.set l.values l.nb l.at l.n (pos 0) next' x')
