use mathlib.Core.Path.{◌≡◌}
use Prim.Native.Nat.{◌+◌, ◌-◌, ◌*◌, ◌≤◌}
use lib.ListN.{length}
use Rattle.page.specs.Writes.{Line}
use Rattle.page.proofs.Comparisons.{Comparing}
use Rattle.page.proofs.place_comparisons.Given as goal

abbrev pub invariant-loop : goal.invariant-loop
invariant-loop l = (Line l.p) × (l.p.line ≤ l.initial.p.line + 81 * l.i) × (length l.out ≡ length l.initial.out) × Comparing l.words l.from l.initial.out l.initial.p l.i (l.n - l.counter) l.out l.p
