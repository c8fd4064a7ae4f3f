use mathlib.Core.Path.{◌≡◌}
use mathlib.Core.List.{List}
use Prim.Native.Nat.{ℕ, ◌+◌, ◌-◌}
use lib.IntN.{ℤ}
use lib.ListN.{length}
use Rattle.laws.specs.Writes.{Wrote, Open}
use Rattle.front.specs.Front.{naturals}
use Rattle.front.proofs.put_words.Given as goal

abbrev pub invariant-loop-i : goal.invariant-loop-i
invariant-loop-i l = Open l.out l.p × (length l.out ≡ length l.initial.out) × ((c : List ℤ) (q : ℕ) → Wrote l.out l.p (naturals l.work l.i (l.from + l.n - l.i)) c q → Wrote l.initial.out l.o (naturals l.work l.from l.n) c q)
