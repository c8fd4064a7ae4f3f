-- `lines::put_clauses` meets its contract. Assumes nothing.
use Prim.Native.Nat.{◌-◌, ◌≤◌, ◌+◌}
use mathlib.Core.Path.{◌≡◌}
use lib.ListN.{drop}
use Rattle.lines.specs.Lines.{print_clause, total}
use Rattle.lines.proofs.Writing.{Showing}
use Rattle.lines.proofs.put_clauses.Given as goal

abbrev pub invariant-loop : goal.invariant-loop
invariant-loop l = (Showing print_clause l.n l.words l.from l.initial.out l.at l.out l.p.at l.p.next (l.n - l.counter)) × (l.p.members + total (l.n - l.counter) (drop l.p.next l.words) ≡ total l.n (drop l.from l.words)) × (l.p.members + l.from ≤ l.p.next)
