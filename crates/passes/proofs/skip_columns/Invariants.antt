use Prim.Native.Nat.{ℕ, ◌-◌}
use Rattle.passes.specs.Statements.{SomeColumns, SkipColumnsPost}
use Rattle.passes.proofs.skip_columns.Given as goal

abbrev pub invariant-loop : goal.invariant-loop
invariant-loop l = SomeColumns l.words l.next (l.n - l.counter) × ((r : ℕ) → SkipColumnsPost l.words l.next (l.n - l.counter) r → SkipColumnsPost l.words l.at l.n r)
