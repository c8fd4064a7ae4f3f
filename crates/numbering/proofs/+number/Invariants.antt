use Prim.Native.Nat.{◌+◌, ◌*◌, ◌-◌}
use Rattle.scan.specs.Skip.{split_by}
use Rattle.numbering.specs.Walk.{NumbersSofar, TermsSofar}
use Rattle.numbering.proofs.+number.Given as goal

abbrev pub decreases-number : goal.decreases-number
decreases-number l = 8 * l.left

abbrev pub decreases-number_branches : goal.decreases-number_branches
decreases-number_branches l = 8 * l.left + 2

abbrev pub decreases-number_choice : goal.decreases-number_choice
decreases-number_choice l = 8 * l.left + 4

abbrev pub decreases-number_constant : goal.decreases-number_constant
decreases-number_constant l = 8 * l.left + 1

abbrev pub decreases-number_if : goal.decreases-number_if
decreases-number_if l = 8 * l.left + 5

abbrev pub decreases-number_int : goal.decreases-number_int
decreases-number_int l = 8 * l.left

abbrev pub decreases-number_new : goal.decreases-number_new
decreases-number_new l = 8 * l.left + 3

abbrev pub decreases-number_open : goal.decreases-number_open
decreases-number_open l = 8 * l.left + 1

abbrev pub decreases-number_terms : goal.decreases-number_terms
decreases-number_terms l = 8 * l.left + 1

abbrev pub decreases-numbers : goal.decreases-numbers
decreases-numbers l = 8 * l.left + 1

abbrev pub invariant-number_terms-loop : goal.invariant-number_terms-loop
invariant-number_terms-loop l = TermsSofar l.room.records l.room.cap l.left (split_by l.m) l.count l.at l.base l.initial.work l.initial.out l.initial.r.progress l.work l.out l.r (l.count - l.counter)

abbrev pub invariant-numbers-loop : goal.invariant-numbers-loop
invariant-numbers-loop l = NumbersSofar l.room.records l.room.cap l.left (split_by l.m) l.h l.count l.g l.at l.base l.initial.work l.initial.out l.initial.r.progress l.work l.out l.r (l.count - l.counter) l.f
