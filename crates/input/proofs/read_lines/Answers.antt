-- `input::read_lines` meets its contract. Assumes nothing.
use Rattle.input.proofs.Whole.{inside_next, text_long, whole_head, whole_tail, whole_more, whole_end}
use Rattle.input.proofs.read_lines.Goals as goal

pub returns-then-text-gt65536 : goal.returns-then-text-gt65536
returns-then-text-gt65536 c = text_long _ _ c.if-text-gt65536.true

pub returns-in_err-a : goal.returns-in_err-a
returns-in_err-a c = rw c.from_residual.ensures (whole_head _ c.if-text-gt65536.false _ _ _ c.read_head.ensures c.in_err-a.was)

pub read_tail-requires : goal.read_tail-requires
read_tail-requires c = inside_next _ _ _ _ c.if-text-gt65536.false c.read_head.ensures.inside c.in_ok-a.was

pub returns-in_err-e : goal.returns-in_err-e
returns-in_err-e c = rw c.from_residual-in_err-e.ensures (whole_tail _ c.if-text-gt65536.false _ _ _ c.read_head.ensures _ _ c.in_ok-a.was _ _ c.read_tail.ensures c.in_err-e.was)

pub returns-then-e-text : goal.returns-then-e-text
returns-then-e-text c = whole_more _ c.if-text-gt65536.false _ _ _ c.read_head.ensures _ _ c.in_ok-a.was _ _ c.read_tail.ensures _ _ c.in_ok-e.was c.if-e-text.true

pub returns : goal.returns
returns c = whole_end _ c.if-text-gt65536.false _ _ _ c.read_head.ensures _ _ c.in_ok-a.was _ _ c.read_tail.ensures _ _ c.in_ok-e.was c.if-e-text.false
