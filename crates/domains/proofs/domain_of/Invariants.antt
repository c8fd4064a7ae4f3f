use Prim.Native.Nat.{ℕ, ◌-◌}
use Rattle.domains.specs.Declared.{DomainBelow, DomainPost}
use Rattle.domains.proofs.domain_of.Given as goal

abbrev pub invariant-loop : goal.invariant-loop
invariant-loop l = DomainBelow l.words l.at (l.v - l.counter) × ((r : ℕ) → DomainPost l.words l.at (l.v - l.counter) r → DomainPost l.words l.d l.v r)
