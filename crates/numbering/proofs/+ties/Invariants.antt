use Prim.Native.Nat.{◌+◌, ◌*◌, ◌-◌}
use Rattle.scan.specs.Skip.{split_by}
use Rattle.numbering.specs.TieWalk.{EachSofar, TermTiesSofar}
use Rattle.numbering.proofs.+ties.Given as goal

abbrev pub decreases-number_each_ties : goal.decreases-number_each_ties
decreases-number_each_ties l = 8 * l.left + 1

abbrev pub decreases-number_int_ties : goal.decreases-number_int_ties
decreases-number_int_ties l = 8 * l.left

abbrev pub decreases-number_sides : goal.decreases-number_sides
decreases-number_sides l = 8 * l.left + 1

abbrev pub decreases-number_term_ties : goal.decreases-number_term_ties
decreases-number_term_ties l = 8 * l.left + 1

abbrev pub decreases-number_ties : goal.decreases-number_ties
decreases-number_ties l = 8 * l.left

abbrev pub invariant-number_each_ties-loop : goal.invariant-number_each_ties-loop
invariant-number_each_ties-loop l = EachSofar l.room.records l.room.cap l.left (split_by l.m) l.count l.at l.base l.initial.work l.initial.out l.initial.r.progress l.work l.out l.r (l.count - l.counter)

abbrev pub invariant-number_term_ties-loop : goal.invariant-number_term_ties-loop
invariant-number_term_ties-loop l = TermTiesSofar l.room.records l.room.cap l.left (split_by l.m) l.count l.at l.base l.initial.work l.initial.out l.initial.r.progress l.work l.out l.r (l.count - l.counter)
