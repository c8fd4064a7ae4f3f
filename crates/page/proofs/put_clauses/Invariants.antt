use mathlib.Core.Path.{◌≡◌}
use Prim.Native.Nat.{◌+◌, ◌-◌, ◌*◌, ◌≤◌}
use lib.ListN.{length, drop}
use Rattle.page.proofs.Clauses.{text_of, Clausing}
use Rattle.page.proofs.put_clauses.Given as goal

abbrev pub invariant-loop-k : goal.invariant-loop-k
invariant-loop-k l = (l.o ≤ 81 * l.i) × (l.i ≤ length l.words) × (l.k ≤ l.i) × (length l.out ≡ length l.initial.out) × Clausing l.words l.initial.out (text_of 1 l.n (drop l.from l.words)) (l.k + 1) (l.n - l.k) l.i l.out l.o
