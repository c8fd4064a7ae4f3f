use mathlib.Core.Path.{◌≡◌}
use Prim.Native.Nat.{◌+◌, ◌*◌, ◌≤◌}
use lib.ListN.{length, drop}
use Rattle.lines.specs.Lines.{print_more}
use Rattle.page.proofs.numbers_width.Given as goal

abbrev pub invariant-loop-z : goal.invariant-loop-z
invariant-loop-z l = (l.w + length (print_more (drop l.z-index l.part)) ≡ length (print_more l.part)) × (l.w ≤ 12 * l.z-index)
