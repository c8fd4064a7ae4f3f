-- `copy_folded` meets its contract.
use native.Mathlib.Omega.{arith}
use Rattle.remaining.proofs.Laws.{copied_short, copied_next, copied_two}
use Rattle.remaining.proofs.copy_folded.Goals as goal

pub returns-then-out-bools : goal.returns-then-out-bools
returns-then-out-bools c = copied_short _ _ _ c.requires.0 c.requires.1 c.requires.3 _ c.if-out-bools.true

pub copy_words-requires : goal.copy_words-requires
copy_words-requires c = (omega (arith, c.requires.1, c.requires.3), omega (arith, c.if-out-bools.false, c.copy_words-o.auto.work, copied_next _ _ _ c.requires.0 c.requires.1 c.requires.3 _ _ _ c.copy_words-o.ensures))

pub returns : goal.returns
returns c = copied_two _ _ _ c.requires.0 c.requires.1 c.requires.3 _ _ _ _ _ c.copy_words-o.ensures c.copy_words.ensures c.if-out-bools.false
