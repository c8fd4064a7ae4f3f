-- `text::put_compiled` meets its contract. Assumes nothing.
use Rattle.text.proofs.Writing.{compiled_shown}
use Rattle.text.proofs.put_compiled.Goals as goal

pub put_line-q-requires : goal.put_line-q-requires
put_line-q-requires c = c.put_line-p.ensures.high

pub put_line-r-requires : goal.put_line-r-requires
put_line-r-requires c = c.put_line-q.ensures.high

pub put_emitted-requires : goal.put_emitted-requires
put_emitted-requires c = c.put_line-r.ensures.high

pub shape_of-out : goal.shape_of-out
shape_of-out c = (compiled_shown _ _ _ _ _ _ _ _ _ _ _ _ _ _ _ _ _ c.put_bytes-i.ensures c.put_line-p.ensures c.put_line-q.ensures c.put_line-r.ensures c.put_emitted.ensures).size

pub returns : goal.returns
returns c = compiled_shown _ _ _ _ _ _ _ _ _ _ _ _ _ _ _ _ _ c.put_bytes-i.ensures c.put_line-p.ensures c.put_line-q.ensures c.put_line-r.ensures c.put_emitted.ensures
