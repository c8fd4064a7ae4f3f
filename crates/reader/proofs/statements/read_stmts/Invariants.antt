-- The loop of `reader::statements::read_stmts`. Assumes nothing.
use mathlib.Core.Path.{◌≡◌}
use Prim.Native.Nat.{◌-◌}
use Rattle.words.specs.Parse.{times}
use Rattle.read.specs.Read.{read_stmt as stmt-of}
use Rattle.reader.specs.Position.{passed}
use Rattle.reader.proofs.statements.read_stmts.Given as goal

abbrev pub invariant-loop : goal.invariant-loop
invariant-loop l = passed (times (l.count - l.counter) (stmt-of l.vars.bools l.vars.ints) l.c.rest.now) ≡ passed (times l.count (stmt-of l.vars.bools l.vars.ints) l.fn.c.rest.now)
