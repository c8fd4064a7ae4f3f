-- `input::read_tail` meets its contract. Assumes nothing.
use native.Mathlib.Omega.{arith}
use Rattle.input.proofs.Whole.{inside_next, tail_one, tail_two}
use Rattle.input.proofs.read_tail.Goals as goal

pub returns-in_err-a : goal.returns-in_err-a
returns-in_err-a c = rw c.from_residual.ensures (tail_one _ _ _ _ _ _ c.count_line.ensures c.in_err-a.was)

pub lines-requires : goal.lines-requires
lines-requires c = record { inside = inside_next _ _ _ _ c.requires.short c.count_line.ensures.inside c.in_ok-a.was; key_nonzero = omega arith }

pub returns : goal.returns
returns c = tail_two _ _ _ _ _ _ c.count_line.ensures _ _ c.in_ok-a.was _ _ c.lines.ensures
