-- The loop's invariant is `Going`, of the sum in the two arrays; the levels left fall at each call.
use Rattle.sums.specs.Struct.{Wide, sum_at}
use Prim.Native.Nat.{◌-◌}
use Rattle.scan.specs.Skip.{split_by}
use Rattle.totals.specs.Linear.{Going}
use Rattle.totals.proofs.+linear_of.Given as goal

abbrev pub decreases-linear_of : goal.decreases-linear_of
decreases-linear_of l = l.left

abbrev pub invariant-loop : goal.invariant-loop
invariant-loop l = Going l.work l.under (split_by l.m) l.count l.initial.r.at l.initial.r.base l.initial.r.n (l.count - l.counter) l.r (sum_at l.sum l.vars l.coefs) × Wide l.vars l.coefs
