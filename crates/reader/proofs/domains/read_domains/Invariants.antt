-- The loop of `reader::domains::read_domains`. Assumes nothing.
use mathlib.Core.Path.{◌≡◌}
use Prim.Native.Nat.{◌-◌}
use Rattle.words.specs.Parse.{times}
use Rattle.read.specs.Read.{read_domain as domain_of}
use Rattle.reader.specs.Position.{passed}
use Rattle.reader.proofs.domains.read_domains.Given as goal

abbrev pub invariant-loop : goal.invariant-loop
invariant-loop l = passed (times (l.count - l.counter) domain_of l.c.rest.now) ≡ passed (times l.count domain_of l.fn.c.rest.now)
