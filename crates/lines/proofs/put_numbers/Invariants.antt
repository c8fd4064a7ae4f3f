-- `lines::put_numbers` meets its contract. Assumes nothing.
use mathlib.Core.Path.{◌≡◌}
use lib.ListN.{length, drop}
use Rattle.lines.specs.Lines.{print_more}
use Rattle.decimal.specs.Puts.{puts}
use Rattle.lines.proofs.put_numbers.Given as goal

abbrev pub invariant-loop-z : goal.invariant-loop-z
invariant-loop-z l = (length l.out ≡ length l.initial.out) × (puts l.out l.o (print_more (drop l.z-index l.z-items)) ≡ puts l.initial.out l.initial.o (print_more l.z-items))
