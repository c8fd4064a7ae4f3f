-- The loop of `reader::domains::read_rising`. Assumes nothing.
use mathlib.Core.Path.{◌≡◌}
use Prim.Native.Nat.{◌-◌}
use Rattle.read.specs.Read.{read_rising as rising-of}
use Rattle.reader.specs.Position.{passed}
use Rattle.reader.proofs.domains.read_rising.Given as goal

abbrev pub invariant-loop : goal.invariant-loop
invariant-loop l = passed (rising-of (l.count - l.counter) l.last l.c.rest.now) ≡ passed (rising-of l.count l.above l.fn.c.rest.now)
