-- `write_sheet` meets its contract.
use Rattle.sheets.proofs.Laws.{sheet_of_words}
use Rattle.sheets.proofs.write_sheet.Goals as goal

pub returns : goal.returns
returns c = sheet_of_words c.args.set.now c.args.words.now c.count_at-b.result c.count_at-i.result c.clauses_at-at.result c.count_at-b.ensures.0 c.count_at-i.ensures.0 c.clauses_at-at.ensures.0 c.put_sheet.ensures.0
