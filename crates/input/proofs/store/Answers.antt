-- `input::store` meets its contract. Assumes nothing.
use Rattle.input.proofs.Reading.{stored, stored_past}
use Rattle.input.proofs.store.Goals.{then-k-words, else-k-words}
use Rattle.input.proofs.store.Goals as goal

pub returns : goal.returns
returns c = elim c.if-k-words.branch [
  | then-k-words w ↦ rw (w.words-is) (stored _ _ _ c.ranges.w)
  | else-k-words w ↦ rw (w.words-is) (stored_past _ _ _ w.if-k-words.false)
]
