use Rattle.accept.proofs.TestLaws.{left_many, right_many, both_few}
use Rattle.accept.proofs.branches.Goals as goal
use Rattle.accept.proofs.branches.Goals.{then-many_column-via-then-many_column, then-many_column-via-else-many_column+then-many_column-2}

pub returns-then-many_column : goal.returns-then-many_column
returns-then-many_column c = elim c.then-many_column.branch [
  | then-many_column-via-then-many_column w ↦ left_many c.args.walk.now.set.now c.args.t c.args.f c.args.end c.args.walk.now.ints _ c.many_column.ensures w.if-many_column.true
  | then-many_column-via-else-many_column+then-many_column-2 w ↦ right_many c.args.walk.now.set.now c.args.t c.args.f c.args.end c.args.walk.now.ints _ c.many_column.ensures w.if-many_column.false _ w.many_column-else-many_column.ensures w.if-many_column-2.true
]

pub returns : goal.returns
returns c = both_few c.args.walk.now.set.now c.args.t c.args.f c.args.end c.args.walk.now.ints _ c.many_column.ensures c.if-many_column.false _ c.many_column-else-many_column.ensures c.if-many_column-2.false
