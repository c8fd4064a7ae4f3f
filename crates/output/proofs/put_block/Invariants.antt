use mathlib.Core.Path.{◌≡◌}
use mathlib.Core.List.{List}
use Prim.Native.Nat.{ℕ, ◌+◌, ◌-◌}
use lib.IntN.{ℤ}
use lib.ListN.{length}
use Rattle.walk.specs.Item.{block}
use Rattle.laws.specs.Writes.{Wrote, Open}
use Rattle.output.proofs.put_block.Given as goal

abbrev pub invariant-loop-n : goal.invariant-loop-n
invariant-loop-n l = Open l.out l.p × (length l.out ≡ length l.initial.out) × ((c : List ℤ) (q : ℕ) → Wrote l.out l.p (block l.n (l.b + l.k - l.n)) c q → Wrote l.initial.out l.o (block l.b l.k) c q)
