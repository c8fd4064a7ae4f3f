use Prim.Native.Nat.{ℕ, ◌-◌}
use Rattle.propagate.specs.Optimized.{SomeDomains, DomainsEndPost}
use Rattle.propagate.proofs.domains_end.Given as goal

abbrev pub invariant-loop : goal.invariant-loop
invariant-loop l = SomeDomains l.words l.at (l.n - l.counter) × ((r : ℕ) → DomainsEndPost l.words l.at (l.n - l.counter) r → DomainsEndPost l.words l.d l.n r)
