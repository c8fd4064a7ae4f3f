use Rattle.accept.proofs.DifferentLaws.{beside_short, beside_hit, beside_rest}
use Rattle.accept.proofs.many_beside.Goals as goal

pub returns-then-words-lt64 : goal.returns-then-words-lt64
returns-then-words-lt64 c = beside_short c.args.walk.now.set.now c.args.a c.args.end c.args.at c.args.k c.args.n c.args.walk.now.ints c.if-words-lt64.true

pub returns-then-many_among : goal.returns-then-many_among
returns-then-many_among c = rw c.if-many_among.true (beside_hit c.args.walk.now.set.now c.args.a c.args.end c.args.at c.args.k c.args.n c.args.walk.now.ints c.if-words-lt64.false _ c.many_among.ensures c.if-many_among.true)

pub returns-else-many_among : goal.returns-else-many_among
returns-else-many_among c = beside_rest c.args.walk.now.set.now c.args.a c.args.end c.args.at c.args.k c.args.n c.args.walk.now.ints c.if-words-lt64.false _ c.many_among.ensures c.if-many_among.false _ c.many_among-else-many_among.ensures
