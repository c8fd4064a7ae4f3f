use mathlib.Core.Path.{◌≡◌}
use mathlib.Core.List.{List}
use lib.IntN.{ℤ}
use lib.ListN.{length}
use Prim.Native.Nat.{ℕ, ◌-◌}
use Rattle.domains.specs.Declared.{BoundsRoom, BoundsPost}
use Rattle.domains.proofs.write_bounds.Given as goal

abbrev pub invariant-loop : goal.invariant-loop
invariant-loop l = BoundsRoom l.words l.at (l.n - l.counter) l.work l.p × (length l.work ≡ length l.initial.work) × ((out : List ℤ) (r : ℕ) → BoundsPost l.words l.at (l.n - l.counter) l.work l.p out r → BoundsPost l.words l.d l.n l.initial.work l.o out r)
