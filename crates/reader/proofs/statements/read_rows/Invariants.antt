-- The loop of `reader::statements::read_rows`. Assumes nothing.
use mathlib.Core.Path.{◌≡◌}
use Prim.Native.Nat.{◌-◌}
use Rattle.words.specs.Parse.{times}
use Rattle.read.specs.Read.{read_cell as cell_of}
use Rattle.reader.specs.Position.{passed}
use Rattle.reader.proofs.statements.read_rows.Given as goal

abbrev pub invariant-loop : goal.invariant-loop
invariant-loop l = passed (times (l.count - l.counter) (times l.width cell_of) l.c.rest.now) ≡ passed (times l.count (times l.width cell_of) l.fn.c.rest.now)
