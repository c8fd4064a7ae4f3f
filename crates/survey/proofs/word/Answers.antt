use mathlib.Core.Path.{◌∙◌}
use Rattle.survey.proofs.Leaves.{word_inside, word_outside}
use Rattle.survey.proofs.word.Goals as goal

pub returns-then-at-lt-FOLDED_END : goal.returns-then-at-lt-FOLDED_END
returns-then-at-lt-FOLDED_END c = c.entry.ensures ∙ word_inside c.args.work.now _ c.if-at-lt-FOLDED_END.true

pub returns : goal.returns
returns c = word_outside c.args.work.now _ c.if-at-lt-FOLDED_END.false
