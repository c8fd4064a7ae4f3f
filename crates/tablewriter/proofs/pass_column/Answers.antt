use Rattle.tablewriter.proofs.Tells.{passed_variable, passed_own}
use Rattle.tablewriter.proofs.pass_column.Goals as goal

pub returns-then-word-eq21 : goal.returns-then-word-eq21
returns-then-word-eq21 c = passed_variable c.end_of-b.ensures c.word.ensures c.if-word-eq21.true

pub returns : goal.returns
returns c = passed_own c.end_of-b.ensures c.word.ensures c.if-word-eq21.false c.more_ints-i.ensures
