-- `clauses_at` meets its contract.
use Rattle.sheets.proofs.Laws.{clauses_found}
use Rattle.sheets.proofs.clauses_at.Goals as goal

pub returns : goal.returns
returns c = clauses_found _ _ _ _ _ _ _ _ _ _ c.stop-a.ensures c.stop-b.ensures c.stop-c.ensures c.stop-d.ensures c.count_at-n.ensures.0 c.stop-e.ensures c.stop.ensures
