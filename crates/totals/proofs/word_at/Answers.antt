-- A folded word, and 0 behind them.
use mathlib.Core.Path.{◌∙◌}
use mir.Syntax.{w32}
use mir.Val.{SFits}
use mir.Facts.{to_z-of_z}
use Rattle.totals.proofs.Numbers.{word_there, word_behind}
use borrow.Author.Rules.{rules}
use Rattle.totals.proofs.word_at.Goals as goal

pub returns-then-at-lt-FOLDED_END : goal.returns-then-at-lt-FOLDED_END
returns-then-at-lt-FOLDED_END c = let f : SFits w32 c.plain.result = search rules in to_z-of_z f ∙ c.plain.ensures ∙ word_there c.args.work.now c.args.at c.if-at-lt-FOLDED_END.true

pub returns : goal.returns
returns c = word_behind c.args.work.now c.args.at c.if-at-lt-FOLDED_END.false
