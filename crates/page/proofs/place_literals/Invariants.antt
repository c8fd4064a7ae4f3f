use mathlib.Core.Path.{◌≡◌}
use Prim.Native.Nat.{◌+◌, ◌*◌, ◌≤◌}
use lib.ListN.{length}
use Rattle.page.specs.Writes.{Line}
use Rattle.page.proofs.Pages.{Literals}
use Rattle.page.proofs.place_literals.Given as goal

abbrev pub invariant-loop-z : goal.invariant-loop-z
invariant-loop-z l = (Line l.p) × (l.p.line ≤ l.initial.p.line + 81 * l.z-index) × (length l.out ≡ length l.initial.out) × Literals l.part l.initial.out l.initial.p l.z-index l.out l.p
