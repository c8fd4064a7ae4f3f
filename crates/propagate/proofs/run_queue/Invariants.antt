use mathlib.Core.Path.{◌≡◌}
use Prim.Native.Nat.{◌-◌, ◌≤◌}
use lib.ListN.{length}
use Rattle.propagate.proofs.WorklistLaws.{Moving}
use Rattle.propagate.proofs.run_queue.Given as goal

abbrev pub invariant-loop-k : goal.invariant-loop-k
invariant-loop-k l = Moving l.words l.initial.work l.initial.places l.work l.places l.count × (l.k ≤ 2048) × (length l.places ≡ length l.initial.places) × (length l.watches ≡ length l.initial.watches)

abbrev pub decreases-loop-k : goal.decreases-loop-k
decreases-loop-k l = 2048 - l.k
