-- `text::text_of_answer` meets its contract. Assumes nothing.
use Rattle.text.proofs.Writing.{told_compiled, told_contradiction, told_unread, told_refused}
use Rattle.text.proofs.text_of_answer.Goals as goal

pub returns-in-Compiled : goal.returns-in-Compiled
returns-in-Compiled c = let h = told_compiled _ _ _ _ _ _ _ c.in-Compiled.is c.put_compiled.ensures in record { value = h.0; out_after = h.1 }

pub returns-in-Contradiction : goal.returns-in-Contradiction
returns-in-Contradiction c = let h = told_contradiction _ _ _ _ _ _ _ c.in-Contradiction.is c.put_bytes.ensures in record { value = h.0; out_after = h.1 }

pub returns-in-Refused : goal.returns-in-Refused
returns-in-Refused c = let h = told_refused _ _ _ _ _ _ _ _ c.in-Refused.is c.put_refused.ensures in record { value = h.0; out_after = h.1 }

pub returns-in-Unread : goal.returns-in-Unread
returns-in-Unread c = let h = told_unread _ _ _ _ _ _ _ c.in-Unread.is c.put_bytes-in-Unread.ensures in record { value = h.0; out_after = h.1 }
