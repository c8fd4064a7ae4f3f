use Prim.Native.Nat.{◌+◌, ◌-◌, ◌*◌}
use mathlib.Core.Path.{◌≡◌}
use Rattle.scan.specs.Skip.{split_by}
use Rattle.scan.specs.SurveyLaws.{counters_of, Sofar}
use Rattle.rulewriter.proofs.+probe.Given as goal

abbrev pub decreases-probe : goal.decreases-probe
decreases-probe l = 2 * l.left

abbrev pub decreases-probes : goal.decreases-probes
decreases-probes l = 2 * l.left + 1

abbrev pub invariant-probes-loop : goal.invariant-probes-loop
invariant-probes-loop l = Sofar l.work l.left (split_by l.m) l.h l.count l.g l.at l.base (counters_of l.initial.r) l.r (l.count - l.counter) l.f × (l.r.part.longs ≡ 0)
