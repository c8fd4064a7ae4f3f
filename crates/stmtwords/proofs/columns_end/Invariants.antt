use mathlib.Core.Path.{◌≡◌}
use Prim.Native.Nat.{◌-◌, ◌≤◌}
use Rattle.memory.specs.Places.{folded_end}
use Rattle.walk.specs.Decode.{read_part}
use Rattle.stages.specs.Columns.{columns_end}
use Rattle.stmtwords.proofs.columns_end.Given as goal

abbrev pub invariant-loop : goal.invariant-loop
invariant-loop l = (l.q ≤ folded_end) × (columns_end (read_part l.work) (l.count - l.counter) l.q ≡ columns_end (read_part l.work) l.count l.at)
