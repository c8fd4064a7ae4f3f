use native.Mathlib.Omega.{arith}
use Rattle.page.proofs.Clauses.{lits_few, clause_written}
use Rattle.page.proofs.put_clause.Goals as goal

pub end_line-requires : goal.end_line-requires
end_line-requires c = (c.place_comparisons-q.ensures.0.line, omega (arith, c.place_comparisons-q.ensures.0.few, c.place_literals-p.ensures.few, c.start_clause-s.ensures.starts, c.place_comparisons-q.ensures.1.high, c.requires.0, c.requires.2, lits_few _ _ _ _ _ c.count_at-n.ensures.0 c.stop-a.ensures c.stop-b.ensures c.requires.2))

pub returns : goal.returns
returns c = clause_written _ _ _ _ _ c.count_at-n.ensures.0 c.stop-a.ensures c.stop-b.ensures c.args.k c.requires.3 c.start_clause-s.ensures c.place_literals-p.ensures c.place_comparisons-q.ensures.0 c.place_comparisons-q.ensures.1 c.end_line.ensures.0 c.end_line.ensures.1
