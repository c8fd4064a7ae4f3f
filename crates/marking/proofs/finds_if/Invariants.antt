-- `finds_if` meets its contract: the places passed do not read as an If. Assumes nothing.
use mathlib.Core.Path.{◌≡◌}
use Prim.Native.Nat.{◌-◌}
use Rattle.memory.specs.Places.{folded}
use Rattle.walk.specs.Decode.{read_part}
use Rattle.marking.specs.Mark.{finds_if}
use Rattle.marking.proofs.finds_if.Given as goal

abbrev pub invariant-loop-i : goal.invariant-loop-i
invariant-loop-i l = finds_if (read_part l.work) l.i (l.end - l.i) ≡ finds_if (read_part l.work) folded (l.end - folded)
