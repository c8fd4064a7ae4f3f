use native.Mathlib.Omega.{arith}
use Rattle.tablewriter.proofs.Tells.{index_low, variable_number, own_number}
use Rattle.tablewriter.proofs.column_number.Goals as goal

pub overflow_add-v : goal.overflow_add-v
overflow_add-v c = omega (arith, c.below-v.ensures, index_low c.word-then-word-eq21.result)

pub returns-then-word-eq21 : goal.returns-then-word-eq21
returns-then-word-eq21 c = (variable_number c.args.work.now c.args.p c.word.ensures c.word-then-word-eq21.ensures c.below-v.ensures c.if-word-eq21.true c.number_at.ensures.0, c.number_at.ensures.1)

pub returns : goal.returns
returns c = (own_number c.args.work.now c.args.p c.word.ensures c.if-word-eq21.false c.number_at-2.ensures.0, c.number_at-2.ensures.1)
