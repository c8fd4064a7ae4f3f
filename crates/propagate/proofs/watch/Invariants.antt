use mathlib.Core.Path.{◌≡◌}
use lib.ListN.{length}
use Rattle.propagate.proofs.watch.Given as goal

abbrev pub invariant-loop-p : goal.invariant-loop-p
invariant-loop-p l = length l.watches ≡ length l.initial.watches
