use Prim.Native.Nat.{ℕ, ◌-◌}
use Rattle.join.specs.Steps.{ReadyNth, NthPost}
use Rattle.join.proofs.nth.Given as goal

abbrev pub invariant-loop : goal.invariant-loop
invariant-loop l = ReadyNth l.set l.work l.next l.ni (l.k - l.counter) × ((r : ℕ) → NthPost l.set l.work l.next l.ni (l.k - l.counter) r → NthPost l.set l.work l.at l.ni l.k r)
