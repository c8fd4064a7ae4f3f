-- `lines::put_domains` meets its contract. Assumes nothing.
use Prim.Native.Nat.{◌-◌}
use Rattle.lines.specs.Lines.{print_domain}
use Rattle.lines.proofs.Writing.{Showing}
use Rattle.lines.proofs.put_domains.Given as goal

abbrev pub invariant-loop : goal.invariant-loop
invariant-loop l = Showing print_domain l.n l.words l.from l.initial.out l.at l.out l.p.at l.p.next (l.n - l.counter)
