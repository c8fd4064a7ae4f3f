use mathlib.Core.Path.{◌≡◌}
use lib.ListN.{length}
use Rattle.propagate.proofs.WorklistLaws.{Sweeping}
use Rattle.propagate.proofs.sweep.Given as goal

abbrev pub invariant-loop-i : goal.invariant-loop-i
invariant-loop-i l = Sweeping l.words l.at l.statements l.initial.work l.work l.places l.next l.i l.count × (length l.places ≡ length l.initial.places) × (length l.watches ≡ length l.initial.watches)
