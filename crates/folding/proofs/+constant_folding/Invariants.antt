use Prim.Native.Nat.{ℕ}
use mathlib.Core.Path.{◌≡◌}
use mathlib.Core.Bool.{Bool, ◌||◌}
use mathlib.Core.List.{List}
use Prim.Native.Nat.{◌+◌, ◌-◌, ◌*◌, ◌≤◌}
use lib.IntN.{ℤ}
use lib.ListN.{length}
use Rattle.folding.specs.Steps.{ReadyTerms, TermsPost, ReadyMembers, MembersPost}
use Rattle.folding.proofs.+constant_folding.Given as goal

abbrev pub decreases-constant_folding_bool : goal.decreases-constant_folding_bool
decreases-constant_folding_bool l = 3 * (length l.words.now - l.at) + 1

abbrev pub decreases-constant_folding_int : goal.decreases-constant_folding_int
decreases-constant_folding_int l = 3 * (length l.words.now - l.at) + 1

abbrev pub decreases-constant_folding_members : goal.decreases-constant_folding_members
decreases-constant_folding_members l = 3 * (length l.words.now - l.at) + 2

abbrev pub decreases-constant_folding_terms : goal.decreases-constant_folding_terms
decreases-constant_folding_terms l = 3 * (length l.words.now - l.at)

abbrev pub decreases-fold_comparison : goal.decreases-fold_comparison
decreases-fold_comparison l = 3 * (length l.words.now - l.at)

abbrev pub decreases-fold_if : goal.decreases-fold_if
decreases-fold_if l = 3 * (length l.words.now - l.at)

abbrev pub decreases-fold_side : goal.decreases-fold_side
decreases-fold_side l = 3 * (length l.words.now - l.at) + 2

abbrev pub invariant-constant_folding_members-loop : goal.invariant-constant_folding_members-loop
invariant-constant_folding_members-loop l = (l.at ≤ l.next) × (length l.work ≡ length l.initial.work) × (l.kept + (l.count - l.counter) ≤ l.count) × ReadyMembers l.words l.d l.next (l.count - l.counter) l.work l.end × ((out' : List ℤ) (next' end' : ℕ) (hit' : Bool) (size : ℕ) → MembersPost l.words l.d l.next (l.count - l.counter) l.work l.end l.b out' next' end' hit' size → MembersPost l.words l.d l.at l.count l.initial.work l.o l.b out' next' end' (l.hit || hit') (l.kept + size))

abbrev pub invariant-constant_folding_terms-loop : goal.invariant-constant_folding_terms-loop
invariant-constant_folding_terms-loop l = (l.at ≤ l.next) × (length l.work ≡ length l.initial.work) × ReadyTerms l.words l.d l.next (l.count - l.counter) l.work l.end × ((out' : List ℤ) (next' end' : ℕ) → TermsPost l.words l.d l.next (l.count - l.counter) l.work l.end out' next' end' → TermsPost l.words l.d l.at l.count l.initial.work l.o out' next' end')
