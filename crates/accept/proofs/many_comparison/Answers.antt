use native.Mathlib.Omega.{arith}
use Rattle.accept.proofs.TestLaws.{many_few}
use Rattle.accept.proofs.CountLaws.{blank_of, first_size, second_size, many_of}
use Rattle.accept.proofs.many_comparison.Goals as goal

pub returns-then-words-lt128 : goal.returns-then-words-lt128
returns-then-words-lt128 c = many_few c.args.walk.now.set.now c.args.a c.args.b c.args.words c.args.walk.now.ints c.if-words-lt128.true

pub overflow_add-result : goal.overflow_add-result
overflow_add-result c = omega (arith, (first_size c.args.walk.now.set.now c.args.a c.args.walk.now.ints _ (blank_of c.args.walk.now.ints c.args.walk.now.few) _ _ _ c.mark_written-x.ensures c.requires.0).1, second_size c.args.walk.now.set.now c.args.a c.args.walk.now.ints _ (blank_of c.args.walk.now.ints c.args.walk.now.few) _ _ _ c.mark_written-x.ensures c.args.b _ _ _ c.mark_written-y.ensures c.requires.1, c.args.walk.now.few)

pub returns : goal.returns
returns c = many_of c.args.walk.now.set.now c.args.a c.args.walk.now.ints _ (blank_of c.args.walk.now.ints c.args.walk.now.few) _ _ _ c.mark_written-x.ensures c.args.b _ _ _ c.mark_written-y.ensures c.args.words
