use native.Mathlib.Omega.{arith}
use Rattle.memory.proofs.Laws.{copying_none, copying_next, copying_end}
use Rattle.memory.proofs.copy_words.Goals as goal

pub loop-k-init : goal.loop-k-init
loop-k-init c = copying_none _ _ _ _

pub copy_word-requires : goal.copy_word-requires
copy_word-requires c = (omega (arith, c.requires.0), omega (arith, c.requires.1, c.loop-k.invariant.size))

pub loop-k-preserved : goal.loop-k-preserved
loop-k-preserved c = copying_next _ _ _ _ _ _ _ (omega (arith, c.requires.0)) (omega (arith, c.requires.1, c.loop-k.invariant.size)) c.copy_word.ensures c.loop-k.invariant

pub shape_of-work : goal.shape_of-work
shape_of-work c = c.loop-k.invariant.size

pub returns : goal.returns
returns c = copying_end _ _ _ _ _ _ _ (omega arith) c.requires.0 c.loop-k.invariant
