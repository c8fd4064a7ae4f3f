-- `write_domains` meets its contract: what is left to write, written, gives the whole table. Assumes nothing.
use mathlib.Core.Path.{◌≡◌}
use mathlib.Core.List.{List}
use lib.IntN.{ℤ}
use lib.ListN.{length}
use Prim.Native.Nat.{◌-◌}
use Rattle.memory.specs.Places.{declared_domains}
use Rattle.declared.specs.DomainTable.{TableRoom, TablePost}
use Rattle.declared.proofs.write_domains.Given as goal

abbrev pub invariant-loop : goal.invariant-loop
invariant-loop l = TableRoom l.set l.at (l.n - l.counter) l.work l.p × (length l.work ≡ length l.initial.work) × ((out : List ℤ) → TablePost l.set l.at (l.n - l.counter) l.work l.p out → TablePost l.set l.d l.n l.initial.work declared_domains out)
