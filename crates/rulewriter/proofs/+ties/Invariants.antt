use Prim.Native.Nat.{◌+◌, ◌-◌, ◌*◌}
use Rattle.walk.specs.Decode.{read_part}
use Rattle.walks.specs.Decode.{decode, decode_int, many_ties, terms_ties, ties_at, ties_int_at}
use Rattle.scan.specs.Skip.{split_by, Skipping, TermSkipping}
use Rattle.rulewriter.specs.Places.{Placed}
use Rattle.rulewriter.proofs.Extras.{Going}
use Rattle.rulewriter.proofs.+ties.Given as goal

abbrev pub decreases-int_ties : goal.decreases-int_ties
decreases-int_ties l = 4 * l.left

abbrev pub decreases-member_ties : goal.decreases-member_ties
decreases-member_ties l = 4 * l.left + 1

abbrev pub decreases-split_ties : goal.decreases-split_ties
decreases-split_ties l = 4 * l.left + 1

abbrev pub decreases-term_ties : goal.decreases-term_ties
decreases-term_ties l = 4 * l.left + 1

abbrev pub decreases-write_ties : goal.decreases-write_ties
decreases-write_ties l = 4 * l.left

abbrev pub invariant-member_ties-loop : goal.invariant-member_ties-loop
invariant-member_ties-loop l =
    Placed l.work l.x.at l.x.base l.x.n
    × Going l.work (many_ties (decode (read_part l.work) l.left (split_by l.m)) (ties_at (read_part l.work) l.left (split_by l.m)) l.count l.at l.base) l.initial.x.n l.initial.out l.o (many_ties (decode (read_part l.work) l.left (split_by l.m)) (ties_at (read_part l.work) l.left (split_by l.m)) (l.count - l.counter) l.x.at l.x.base) l.out l.x
    × Skipping (read_part l.work) l.left (split_by l.m) l.count l.at l.base (l.count - l.counter) l.x.at l.x.base

abbrev pub invariant-term_ties-loop : goal.invariant-term_ties-loop
invariant-term_ties-loop l =
    Placed l.work l.x.at l.x.base l.x.n
    × Going l.work (terms_ties (read_part l.work) (decode_int (read_part l.work) l.left (split_by l.m)) (ties_int_at (read_part l.work) l.left (split_by l.m)) l.count l.at l.base) l.initial.x.n l.initial.out l.o (terms_ties (read_part l.work) (decode_int (read_part l.work) l.left (split_by l.m)) (ties_int_at (read_part l.work) l.left (split_by l.m)) (l.count - l.counter) l.x.at l.x.base) l.out l.x
    × TermSkipping (read_part l.work) l.left (split_by l.m) l.count l.at l.base (l.count - l.counter) l.x.at l.x.base
