-- `clear_words` meets its contract: what is left to clear, cleared, gives the whole. Assumes nothing.
use native.Mathlib.Omega.{arith}
use mathlib.Core.Path.{refl, sym, ◌∙◌}
use lib.IntN.{pos}
use lib.ListN.{length-set}
use Rattle.memory.proofs.Laws.{clear_next, clear_none}
use Rattle.memory.proofs.clear_words.Goals as goal

pub loop-i-init : goal.loop-i-init
loop-i-init c = (refl, refl)

pub loop-i-preserved : goal.loop-i-preserved
loop-i-preserved c = (length-set c.loop-i.work c.loop-i.i (pos 0) ∙ c.loop-i.invariant.0, clear_next c.loop-i.work c.loop-i.i c.args.to (omega arith) ∙ c.loop-i.invariant.1)

pub shape_of-work : goal.shape_of-work
shape_of-work c = c.loop-i.invariant.0

pub returns : goal.returns
returns c = sym (clear_none c.loop-i.work c.loop-i.i c.args.to (omega arith)) ∙ c.loop-i.invariant.1
