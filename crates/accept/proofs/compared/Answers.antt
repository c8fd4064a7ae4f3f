use Rattle.accept.proofs.TestLaws.{compared_heavy, compared_many, compared_none}
use Rattle.accept.proofs.compared.Goals as goal

pub returns-then-sum-gt1073741823 : goal.returns-then-sum-gt1073741823
returns-then-sum-gt1073741823 c = compared_heavy c.args.walk.now.set.now c.args.a c.args.b c.args.words c.args.sum c.args.walk.now.ints c.if-sum-gt1073741823.true

pub returns-then-many_comparison : goal.returns-then-many_comparison
returns-then-many_comparison c = compared_many c.args.walk.now.set.now c.args.a c.args.b c.args.words c.args.sum c.args.walk.now.ints c.if-sum-gt1073741823.false _ c.many_comparison.ensures c.if-many_comparison.true

pub returns : goal.returns
returns c = compared_none c.args.walk.now.set.now c.args.a c.args.b c.args.words c.args.sum c.args.walk.now.ints c.if-sum-gt1073741823.false _ c.many_comparison.ensures c.if-many_comparison.false
