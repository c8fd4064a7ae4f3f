-- With no level left nothing is a sum.
use mathlib.Core.Path.{◌∙◌, ap}
use mathlib.Core.Bool.{not}
use borrow.Author.Tests.{eq-eqb}
use Rattle.totals.proofs.Numbers.{sum_none, sum_code}
use Rattle.totals.proofs.is_sum.Goals as goal

pub returns-then-left-ne0 : goal.returns-then-left-ne0
returns-then-left-ne0 c = sum_code c.args.work.now c.args.left c.args.at _ c.if-left-ne0.true c.word.ensures

pub returns-else-left-ne0 : goal.returns-else-left-ne0
returns-else-left-ne0 c = ap not (eq-eqb _ _ c.if-left-ne0.false) ∙ sum_none c.args.work.now c.args.left c.args.at c.if-left-ne0.false
