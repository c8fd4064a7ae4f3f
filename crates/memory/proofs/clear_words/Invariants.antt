-- `clear_words` meets its contract: what is left to clear, cleared, gives the whole. Assumes nothing.
use mathlib.Core.Path.{◌≡◌}
use lib.ListN.{length}
use Rattle.memory.specs.Cleared.{cleared}
use Rattle.memory.proofs.clear_words.Given as goal

abbrev pub invariant-loop-i : goal.invariant-loop-i
invariant-loop-i l = (length l.work ≡ length l.initial.work) × (cleared l.work l.i l.to ≡ cleared l.initial.work l.from l.to)
