use mathlib.Core.Bool.{Bool, false}
use Prim.Native.Nat.{ℕ, ◌≤◌, ◌-◌}
use Rattle.limits.specs.Total.{cap}
use Rattle.accept.specs.Limit.{hit}
use Rattle.accept.specs.Walk.{ReadyColumns, OverPost}
use Rattle.accept.proofs.heavy_pairs.Given as goal

abbrev pub invariant-loop : goal.invariant-loop
invariant-loop l = ReadyColumns l.walk.set.now l.walk.work.now l.next (l.n - l.counter) l.walk.ints × (l.top ≤ cap) × ((y : ℕ) (r : Bool) (k : ℕ) → OverPost l.walk.set.now l.walk.work.now l.next (l.n - l.counter) l.walk.ints l.top l.heavy (hit l.refusal) y r k → OverPost l.walk.set.now l.walk.work.now l.at l.n l.walk.ints 0 false 12 y r k)
