-- `main` meets its contract.
use Rattle.sheet.proofs.Laws.{part_length, room_length}
use Rattle.sheet.proofs.main.Goals as goal

pub slice_bounds-sheet_of_text-end-5 : goal.slice_bounds-sheet_of_text-end-5
slice_bounds-sheet_of_text-end-5 c = room_length 663552

pub slice_bounds-out-end : goal.slice_bounds-out-end
slice_bounds-out-end c = c.sheet_of_text-n.ensures

pub slice_bounds-write_all-end : goal.slice_bounds-write_all-end
slice_bounds-write_all-end c = part_length _ _ c.sheet_of_text-n.ensures
