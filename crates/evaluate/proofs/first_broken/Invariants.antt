use Prim.Native.Nat.{◌+◌, ◌-◌}
use mathlib.Core.Path.{◌≡◌}
use lib.ListN.{length}
use Rattle.evaluate.specs.Contract.{ReadyStmts, BrokenPost}
use Rattle.evaluate.specs.declared.Checked.{Checked}
use Rattle.evaluate.proofs.first_broken.Given as goal

abbrev pub invariant-loop-k : goal.invariant-loop-k
invariant-loop-k l = ReadyStmts l.set l.values l.nb l.next (l.n - l.k) l.work × (length l.work ≡ length l.initial.work) × ((r : Checked) → BrokenPost l.set l.values l.nb l.next (l.n - l.k) (l.k + 1) r → BrokenPost l.set l.values l.nb l.at l.n 1 r)
