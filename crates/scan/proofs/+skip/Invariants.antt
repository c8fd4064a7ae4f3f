use Prim.Native.Nat.{◌+◌, ◌-◌, ◌*◌}
use Rattle.walk.specs.Decode.{read_part}
use Rattle.scan.specs.Skip.{split_by, Skipping, TermSkipping}
use Rattle.scan.proofs.+skip.Given as goal

abbrev pub decreases-skip : goal.decreases-skip
decreases-skip l = 2 * l.left

abbrev pub decreases-skip_int : goal.decreases-skip_int
decreases-skip_int l = 2 * l.left

abbrev pub decreases-skip_terms : goal.decreases-skip_terms
decreases-skip_terms l = 2 * l.left + 1

abbrev pub decreases-skips : goal.decreases-skips
decreases-skips l = 2 * l.left + 1

abbrev pub invariant-skip_terms-loop : goal.invariant-skip_terms-loop
invariant-skip_terms-loop l = TermSkipping (read_part l.work) l.left (split_by l.m) l.count l.at l.base (l.count - l.counter) l.q l.b

abbrev pub invariant-skips-loop : goal.invariant-skips-loop
invariant-skips-loop l = Skipping (read_part l.work) l.left (split_by l.m) l.count l.at l.base (l.count - l.counter) l.q l.b
