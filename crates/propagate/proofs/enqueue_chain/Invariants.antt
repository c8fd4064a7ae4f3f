use mathlib.Core.Path.{◌≡◌}
use Prim.Native.Nat.{◌≤◌, ◌<◌}
use lib.ListN.{length}
use Rattle.propagate.proofs.enqueue_chain.Given as goal

abbrev pub invariant-loop-p : goal.invariant-loop-p
invariant-loop-p l = (l.count ≤ 2048) × (l.p < 8192) × (length l.watches ≡ length l.initial.watches)

abbrev pub decreases-loop-p : goal.decreases-loop-p
decreases-loop-p l = l.p
