use Prim.Native.Nat.{◌-◌}
use Rattle.memory.specs.Places.{folded_end}
use Rattle.numbering.specs.Equal.{Seeking}
use Rattle.numbering.proofs.find_equal.Given as goal

abbrev pub invariant-loop-q : goal.invariant-loop-q
invariant-loop-q l = Seeking l.work (record { at = l.at; size = l.size; whole = l.whole }) (folded_end - l.q) l.q
