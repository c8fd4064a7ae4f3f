use mathlib.Core.Path.{◌≡◌}
use Prim.Native.Nat.{◌+◌, ◌-◌, ◌≤◌}
use lib.ListN.{length}
use lib.Seq.{sets}
use Rattle.page.specs.Sheet.{spaces}
use Rattle.page.proofs.put_spaces.Given as goal

abbrev pub invariant-loop-o : goal.invariant-loop-o
invariant-loop-o l = (l.o ≤ l.at + l.n) × (length l.out ≡ length l.initial.out) × (l.out ≡ sets l.initial.out l.at (spaces (l.o - l.at)))
