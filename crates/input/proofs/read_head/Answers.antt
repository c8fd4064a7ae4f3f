-- `input::read_head` meets its contract. Assumes nothing.
use native.Mathlib.Omega.{arith}
use Rattle.input.proofs.Whole.{inside_next, head_one, head_two, head_three}
use Rattle.input.proofs.read_head.Goals as goal

pub count_line-requires : goal.count_line-requires
count_line-requires c = record { short = c.requires; place = omega arith; count = omega arith }

pub returns-in_err-a : goal.returns-in_err-a
returns-in_err-a c = rw c.from_residual.ensures (head_one _ _ _ _ c.count_line.ensures c.in_err-a.was)

pub count_line-requires-2 : goal.count_line-requires-2
count_line-requires-2 c = inside_next _ _ _ _ c.requires c.count_line.ensures.inside c.in_ok-a.was

pub returns-in_err-b : goal.returns-in_err-b
returns-in_err-b c = rw c.from_residual-in_err-b.ensures (head_two _ _ _ _ c.count_line.ensures _ _ c.in_ok-a.was _ _ c.count_line-2.ensures c.in_err-b.was)

pub lines-requires : goal.lines-requires
lines-requires c = record { inside = inside_next _ _ _ _ c.requires c.count_line-2.ensures.inside c.in_ok-b.was; key_nonzero = omega arith }

pub returns : goal.returns
returns c = head_three _ _ _ _ c.count_line.ensures _ _ c.in_ok-a.was _ _ c.count_line-2.ensures _ _ c.in_ok-b.was _ _ c.lines.ensures
