-- `finish` meets its contract.
use Rattle.sheets.proofs.Laws.{some_fits, finish_fits, finish_over}
use Rattle.sheets.proofs.finish.Goals as goal

pub slice_bounds-write_sheet-end : goal.slice_bounds-write_sheet-end
slice_bounds-write_sheet-end c = (some_fits c.requires).1

pub slice_bounds-write_sheet-end-2 : goal.slice_bounds-write_sheet-end-2
slice_bounds-write_sheet-end-2 c = (some_fits c.requires).0

pub write_sheet-m-requires : goal.write_sheet-m-requires
write_sheet-m-requires c = (some_fits c.requires).2

pub returns-then-m-sheet : goal.returns-then-m-sheet
returns-then-m-sheet c = finish_fits c.write_sheet-m.ensures c.if-m-sheet.true c.write_sheet-m.auto.sheet

pub returns : goal.returns
returns c = finish_over c.write_sheet-m.ensures c.if-m-sheet.false c.write_sheet-m.auto.sheet c.clear.ensures c.clear_bytes.ensures
