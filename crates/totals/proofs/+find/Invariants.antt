-- The loop's invariant is `Looking`; the levels left fall at each call.
use Prim.Native.Nat.{◌-◌}
use Rattle.scan.specs.Skip.{split_by}
use Rattle.totals.specs.Ranges.{Looking}
use Rattle.totals.proofs.+find.Given as goal

abbrev pub decreases-find : goal.decreases-find
decreases-find l = l.left

abbrev pub invariant-loop : goal.invariant-loop
invariant-loop l = Looking l.work l.under (split_by l.m) l.count l.initial.r.at l.initial.r.base l.initial.r.n l.x (l.count - l.counter) l.r
