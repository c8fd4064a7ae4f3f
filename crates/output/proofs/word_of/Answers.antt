use Rattle.output.proofs.Laws.{minus_fits, word_minus, word_plus, word_none}
use Rattle.output.proofs.word_of.Goals as goal

pub overflow_sub-result : goal.overflow_sub-result
overflow_sub-result c = minus_fits _ c.if-x-le-LIMIT.true

pub returns-then-g : goal.returns-then-g
returns-then-g c = word_minus _ _ c.if-x-le-LIMIT.true c.if-g.true

pub returns-then-x-le-LIMIT : goal.returns-then-x-le-LIMIT
returns-then-x-le-LIMIT c = word_plus _ _ c.if-x-le-LIMIT.true c.if-g.false

pub returns : goal.returns
returns c = word_none _ _ c.if-x-le-LIMIT.false
