use Rattle.page.proofs.Clauses.{sheet_written}
use Rattle.page.proofs.put_sheet.Goals as goal

pub returns : goal.returns
returns c = (sheet_written _ _ _ _ c.count_at-n.ensures.0 c.stop-a.ensures c.put_clauses.ensures, c.all_fit.ensures)
