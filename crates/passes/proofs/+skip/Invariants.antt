use Prim.Native.Nat.{ℕ}
use Prim.Native.Nat.{◌+◌, ◌-◌, ◌*◌, ◌≤◌}
use lib.ListN.{length}
use Rattle.passes.specs.Skip.{SomeTerms, SomeMembers, SkipTermsPost, SkipMembersPost}
use Rattle.passes.proofs.+skip.Given as goal

abbrev pub decreases-bool_step : goal.decreases-bool_step
decreases-bool_step l = 2 * (length l.words.now - l.at)

abbrev pub decreases-int_end : goal.decreases-int_end
decreases-int_end l = 2 * (length l.words.now - l.at) + 1

abbrev pub decreases-int_step : goal.decreases-int_step
decreases-int_step l = 2 * (length l.words.now - l.at)

abbrev pub decreases-skip_members : goal.decreases-skip_members
decreases-skip_members l = 2 * (length l.words.now - l.at) + 1

abbrev pub decreases-skip_terms : goal.decreases-skip_terms
decreases-skip_terms l = 2 * (length l.words.now - l.at) + 1

abbrev pub invariant-skip_members-loop-rest : goal.invariant-skip_members-loop-rest
invariant-skip_members-loop-rest l = (l.at ≤ l.next) × SomeMembers l.words l.next l.rest × ((r : ℕ) → SkipMembersPost l.words l.next l.rest r → SkipMembersPost l.words l.at l.n r)

abbrev pub decreases-skip_members-loop-rest : goal.decreases-skip_members-loop-rest
decreases-skip_members-loop-rest l = length l.words - l.next

abbrev pub invariant-skip_terms-loop-rest : goal.invariant-skip_terms-loop-rest
invariant-skip_terms-loop-rest l = (l.at ≤ l.next) × SomeTerms l.words l.next l.rest × ((r : ℕ) → SkipTermsPost l.words l.next l.rest r → SkipTermsPost l.words l.at l.count r)

abbrev pub decreases-skip_terms-loop-rest : goal.decreases-skip_terms-loop-rest
decreases-skip_terms-loop-rest l = length l.words - l.next
