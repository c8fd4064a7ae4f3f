-- `reader::domains::read_rising` meets its contract. Assumes nothing.
use mathlib.Core.Path.{◌∙◌}
use mir.Syntax.{w32}
use mir.Val.{SFits}
use mir.Facts.{to_z-of_z}
use Rattle.reader.proofs.Laws.{rising_not}
use borrow.Author.Rules.{rules}
use Rattle.reader.proofs.domains.read_rising.Goals as goal

pub returns-then-value-last : goal.returns-then-value-last
returns-then-value-last c =
    let f : SFits w32 c.in_ok-value.value = search rules in
    rising_not _ _ _ _ c.loop-test.true _ _ c.in_ok-value.ensures.read (rw (to_z-of_z f) at c.if-value-last.true) ∙ (rw (to_z-of_z c.ranges.above) at c.loop.invariant)
