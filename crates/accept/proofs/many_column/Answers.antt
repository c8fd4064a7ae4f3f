use Rattle.accept.proofs.TestLaws.{one_few}
use Rattle.accept.proofs.CountLaws.{blank_of, one_of}
use Rattle.accept.proofs.many_column.Goals as goal

pub returns-then-words-lt128 : goal.returns-then-words-lt128
returns-then-words-lt128 c = one_few c.args.walk.now.set.now c.args.at c.args.words c.args.walk.now.ints c.if-words-lt128.true

pub returns : goal.returns
returns c = one_of c.args.walk.now.set.now c.args.at c.args.walk.now.ints _ (blank_of c.args.walk.now.ints c.args.walk.now.few) _ _ _ c.mark_written-x.ensures c.args.words
