-- `has_code` meets its contract: what was found, or what is left to look at, is all. Assumes nothing.
use mathlib.Core.Path.{◌≡◌}
use mathlib.Core.Bool.{◌||◌}
use Prim.Native.Nat.{◌-◌}
use Rattle.memory.specs.Places.{folded}
use Rattle.walk.specs.Decode.{read_part}
use Rattle.marking.specs.Mark.{has_code}
use Rattle.marking.proofs.has_code.Given as goal

abbrev pub invariant-loop-q : goal.invariant-loop-q
invariant-loop-q l = l.found || has_code (read_part l.work) l.q (l.end - l.q) ≡ has_code (read_part l.work) folded (l.end - folded)
