-- `lines::put_clause` meets its contract. Assumes nothing.
use Rattle.lines.proofs.Writing.{clause_shown, clause_members}
use native.Mathlib.Omega.{arith}
use Rattle.lines.proofs.put_clause.Goals as goal

pub put_part-p-requires : goal.put_part-p-requires
put_part-p-requires c = c.stop-a.ensures.high

pub put_comparisons-q-requires : goal.put_comparisons-q-requires
put_comparisons-q-requires c = c.put_part-p.ensures.high

pub overflow_sub-result : goal.overflow_sub-result
overflow_sub-result c = c.put_part-p.ensures.low

pub overflow_add-result : goal.overflow_add-result
overflow_add-result c = record { fits = omega (arith, c.put_part-p.ensures.high, c.put_comparisons-q.ensures.members_value.1, c.put_comparisons-q.ensures.printed.high) }

pub shape_of-out : goal.shape_of-out
shape_of-out c = (clause_shown _ _ _ _ c.count_at-n.ensures.0 c.stop-a.ensures _ _ _ _ _ c.put_part-p.ensures _ _ _ c.put_comparisons-q.ensures.printed _ _ _ _ c.put_bytes-i.ensures c.put_byte.ensures).text.size

pub returns : goal.returns
returns c = record { printed = clause_shown _ _ _ _ c.count_at-n.ensures.0 c.stop-a.ensures _ _ _ _ _ c.put_part-p.ensures _ _ _ c.put_comparisons-q.ensures.printed _ _ _ _ c.put_bytes-i.ensures c.put_byte.ensures; members_value = clause_members _ _ _ _ c.count_at-n.ensures.0 c.stop-a.ensures _ _ _ _ _ c.put_part-p.ensures _ _ _ c.put_comparisons-q.ensures.printed _ c.put_comparisons-q.ensures.members_value.0 c.put_comparisons-q.ensures.members_value.1 }
