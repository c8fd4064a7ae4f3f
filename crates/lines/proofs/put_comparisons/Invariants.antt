-- `lines::put_comparisons` meets its contract. Assumes nothing.
use Prim.Native.Nat.{◌-◌, ◌≤◌, ◌+◌}
use mathlib.Core.Path.{◌≡◌}
use lib.ListN.{drop}
use Rattle.lines.specs.Lines.{print_comparison, comparisons_in}
use Rattle.lines.proofs.Writing.{Showing}
use Rattle.lines.proofs.put_comparisons.Given as goal

abbrev pub invariant-loop : goal.invariant-loop
invariant-loop l = (Showing print_comparison l.n l.words l.initial.p.next l.initial.out l.at l.out l.p.at l.p.next (l.n - l.counter)) × (l.p.members + comparisons_in (l.n - l.counter) (drop l.p.next l.words) ≡ comparisons_in l.n (drop l.initial.p.next l.words)) × (l.p.members + l.initial.p.next ≤ l.p.next)
