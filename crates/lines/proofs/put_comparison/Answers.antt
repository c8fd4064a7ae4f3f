-- `lines::put_comparison` meets its contract. Assumes nothing.
use native.Mathlib.Omega.{arith}
use Rattle.lines.proofs.Writing.{comparison_shown}
use Rattle.lines.proofs.put_comparison.Goals as goal

pub put_part-q-requires : goal.put_part-q-requires
put_part-q-requires c = c.put_part-p.ensures.high

pub stop-c-requires : goal.stop-c-requires
stop-c-requires c = c.put_part-q.ensures.high

pub overflow_add-n : goal.overflow_add-n
overflow_add-n c = record { fits = omega (arith, c.count_at-n.ensures.1) }

pub put_part-requires : goal.put_part-requires
put_part-requires c = c.stop-c.ensures.high

pub shape_of-out : goal.shape_of-out
shape_of-out c = (comparison_shown _ _ _ _ _ _ _ _ _ _ _ _ _ _ _ _ _ _ _ _ _ c.put_byte-i.ensures c.put_part-p.ensures c.put_byte-k.ensures c.put_part-q.ensures c.put_byte-m.ensures c.count_at-n.ensures.0 c.stop-c.ensures c.put_part.ensures).text.size

pub returns : goal.returns
returns c = comparison_shown _ _ _ _ _ _ _ _ _ _ _ _ _ _ _ _ _ _ _ _ _ c.put_byte-i.ensures c.put_part-p.ensures c.put_byte-k.ensures c.put_part-q.ensures c.put_byte-m.ensures c.count_at-n.ensures.0 c.stop-c.ensures c.put_part.ensures
