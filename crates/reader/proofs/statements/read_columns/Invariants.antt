-- The loop of `reader::statements::read_columns`. Assumes nothing.
use mathlib.Core.Path.{◌≡◌}
use Prim.Native.Nat.{◌-◌}
use Rattle.words.specs.Parse.{times}
use Rattle.read.specs.Read.{read_int as int_of}
use Rattle.reader.specs.Position.{passed}
use Rattle.reader.proofs.statements.read_columns.Given as goal

abbrev pub invariant-loop : goal.invariant-loop
invariant-loop l = passed (times (l.count - l.counter) (int_of l.vars.bools l.vars.ints 64) l.c.rest.now) ≡ passed (times l.count (int_of l.vars.bools l.vars.ints 64) l.fn.c.rest.now)
