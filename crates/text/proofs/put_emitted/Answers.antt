-- `text::put_emitted` meets its contract. Assumes nothing.
use Rattle.text.proofs.Writing.{emitted_shown}
use Rattle.text.proofs.put_emitted.Goals as goal

pub put_domains-q-requires : goal.put_domains-q-requires
put_domains-q-requires c = c.put_line-p.ensures.high

pub put_rest-requires : goal.put_rest-requires
put_rest-requires c = c.put_domains-q.ensures.high

pub shape_of-out : goal.shape_of-out
shape_of-out c = (emitted_shown _ _ _ _ _ _ _ _ _ _ _ _ _ _ c.stop-a.ensures c.count_at-n.ensures.0 c.put_line-p.ensures c.put_domains-q.ensures c.put_rest.ensures).size

pub returns : goal.returns
returns c = emitted_shown _ _ _ _ _ _ _ _ _ _ _ _ _ _ c.stop-a.ensures c.count_at-n.ensures.0 c.put_line-p.ensures c.put_domains-q.ensures c.put_rest.ensures
