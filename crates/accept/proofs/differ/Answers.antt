use Rattle.accept.proofs.DifferentLaws.{differ_heavy, differ_many, differ_none}
use Rattle.accept.proofs.differ.Goals as goal

pub returns-then-heavy : goal.returns-then-heavy
returns-then-heavy c = differ_heavy c.args.walk.now.set.now c.args.at c.args.n c.args.heavy c.args.walk.now.ints c.if-heavy.true

pub returns-then-many_pairs : goal.returns-then-many_pairs
returns-then-many_pairs c = differ_many c.args.walk.now.set.now c.args.at c.args.n c.args.heavy c.args.walk.now.ints c.if-heavy.false _ c.many_pairs.ensures c.if-many_pairs.true

pub returns : goal.returns
returns c = differ_none c.args.walk.now.set.now c.args.at c.args.n c.args.heavy c.args.walk.now.ints c.if-heavy.false _ c.many_pairs.ensures c.if-many_pairs.false
