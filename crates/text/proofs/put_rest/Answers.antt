-- `text::put_rest` meets its contract. Assumes nothing.
use Rattle.text.proofs.Writing.{rest_shown}
use Rattle.text.proofs.put_rest.Goals as goal

pub put_clauses-p-requires : goal.put_clauses-p-requires
put_clauses-p-requires c = c.stop-a.ensures.high

pub shape_of-out : goal.shape_of-out
shape_of-out c = (rest_shown _ _ _ _ _ _ _ _ _ _ _ _ _ _ _ _ _ _ _ c.count_at-n.ensures.0 c.stop-a.ensures c.put_clauses-p.ensures.printed c.put_clauses-p.ensures.members_value c.put_line-q.ensures c.put_bytes-k.ensures c.put_natural-l.ensures c.put_byte.ensures).size

pub returns : goal.returns
returns c = rest_shown _ _ _ _ _ _ _ _ _ _ _ _ _ _ _ _ _ _ _ c.count_at-n.ensures.0 c.stop-a.ensures c.put_clauses-p.ensures.printed c.put_clauses-p.ensures.members_value c.put_line-q.ensures c.put_bytes-k.ensures c.put_natural-l.ensures c.put_byte.ensures
