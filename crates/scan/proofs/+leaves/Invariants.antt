use Prim.Native.Nat.{◌+◌, ◌-◌, ◌*◌}
use Rattle.walk.specs.Decode.{read_part}
use Rattle.scan.specs.Skip.{split_by}
use Rattle.scan.specs.LeafLaws.{Leaving}
use Rattle.scan.proofs.+leaves.Given as goal

abbrev pub decreases-leaves : goal.decreases-leaves
decreases-leaves l = 2 * l.left

abbrev pub decreases-leaves_all : goal.decreases-leaves_all
decreases-leaves_all l = 2 * l.left + 1

abbrev pub invariant-leaves_all-loop : goal.invariant-leaves_all-loop
invariant-leaves_all-loop l = Leaving (read_part l.work) l.left (split_by l.m) l.count l.g l.h l.at l.base (l.count - l.counter) l.f l.q l.b l.x l.y
