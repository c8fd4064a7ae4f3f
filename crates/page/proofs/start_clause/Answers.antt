use native.Mathlib.Omega.{arith}
use Rattle.page.proofs.Bytes.{put_sets}
use Rattle.page.proofs.Clauses.{number_room, clause_started}
use Rattle.page.proofs.start_clause.Goals as goal

pub overflow_sub-w : goal.overflow_sub-w
overflow_sub-w c = number_room _ _ c.requires.1 c.natural_width-w.ensures

pub overflow_add-o : goal.overflow_add-o
overflow_add-o c = record { fits = omega (arith, c.put_spaces-o.ensures.1, c.requires.0, number_room _ _ c.requires.1 c.natural_width-w.ensures) }

pub put_spaces-e-requires : goal.put_spaces-e-requires
put_spaces-e-requires c = (omega (arith, c.put_spaces-o.ensures.1, c.requires.0, number_room _ _ c.requires.1 c.natural_width-w.ensures), omega arith)

pub returns : goal.returns
returns c = clause_started _ c.requires.1 c.natural_width-w.ensures c.put_spaces-o.ensures.0 c.put_spaces-o.ensures.1 (put_sets c.put_natural.ensures) c.put_spaces-e.ensures.0 c.put_spaces-e.ensures.1
