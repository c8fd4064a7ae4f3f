-- `sheet_of_set` meets its contract.
use Rattle.sheet.proofs.Laws.{sheet_inside}
use Rattle.sheet.proofs.sheet_of_set.Goals as goal

pub returns-in-Compiled : goal.returns-in-Compiled
returns-in-Compiled c = sheet_inside c.compile_sheet.ensures _ _ c.in-Compiled.is
