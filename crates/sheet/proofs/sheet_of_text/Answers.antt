-- `sheet_of_text` meets its contract.
use Rattle.sheet.proofs.Laws.{set_fits, set_length}
use Rattle.sheet.proofs.sheet_of_text.Goals as goal

pub slice_bounds-sheet_of_set-end : goal.slice_bounds-sheet_of_set-end
slice_bounds-sheet_of_set-end c = set_fits _ c.args.words.now _ _ _ c.requires c.words_of_text.ensures.value c.words_of_text.ensures.words_after c.in-Some.is

pub slice_bounds-sheet_of_set-end-2 : goal.slice_bounds-sheet_of_set-end-2
slice_bounds-sheet_of_set-end-2 c = set_length _ c.args.words.now _ _ _ c.requires c.words_of_text.ensures.value c.words_of_text.ensures.words_after c.in-Some.is
