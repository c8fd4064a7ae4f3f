use mathlib.Core.Path.{◌≡◌}
use mathlib.Core.List.{List}
use Prim.Native.Nat.{ℕ}
use lib.IntN.{ℤ}
use lib.ListN.{length, drop}
use Rattle.laws.specs.Writes.{Wrote, Open}
use Rattle.output.proofs.put_all.Given as goal

abbrev pub invariant-loop-w : goal.invariant-loop-w
invariant-loop-w l = Open l.out l.p × (length l.out ≡ length l.initial.out) × ((b : List ℤ) (q : ℕ) → Wrote l.out l.p (drop l.w-index l.words) b q → Wrote l.initial.out l.o l.words b q)
