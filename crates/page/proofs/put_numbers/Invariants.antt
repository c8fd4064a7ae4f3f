use mathlib.Core.Path.{◌≡◌}
use Prim.Native.Nat.{◌+◌, ◌*◌, ◌≤◌}
use lib.ListN.{length, drop}
use Rattle.lines.specs.Lines.{print_more}
use Rattle.page.proofs.Bytes.{Left}
use Rattle.page.proofs.put_numbers.Given as goal

abbrev pub invariant-loop-z : goal.invariant-loop-z
invariant-loop-z l = (l.o ≤ l.initial.o + 12 * l.z-index) × (length l.out ≡ length l.initial.out) × Left l.out l.o (print_more (drop l.z-index l.z-items)) l.initial.out l.initial.o (print_more l.z-items)
