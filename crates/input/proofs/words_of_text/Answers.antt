-- `input::words_of_text` meets its contract. Assumes nothing.
use Rattle.input.proofs.Whole.{whole_unread, whole_count}
use Rattle.input.proofs.words_of_text.Goals as goal

pub returns-then-is_none : goal.returns-then-is_none
returns-then-is_none c = let h = whole_unread c.args.words.now _ c.clear.ensures _ _ _ c.read_lines-n.ensures _ c.if-is_none.ensures c.clear-then-is_none.ensures in record { value = h.0; words_after = h.1 }

pub returns-else-is_none : goal.returns-else-is_none
returns-else-is_none c = let h = whole_count c.args.words.now _ c.clear.ensures _ _ _ c.read_lines-n.ensures c.if-is_none.ensures in record { value = h.0; words_after = h.1 }
