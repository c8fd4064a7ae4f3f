-- A variable by its number in the map, a constant by its word; 0 behind the folded words.
use mir.Syntax.{w32}
use native.Mathlib.Omega.{arith}
use mir.Facts.{to_z-of_z}
use borrow.Author.Rules.{sfits_of}
use Rattle.totals.proofs.Numbers.{word_there, word_behind}
use Rattle.differing.proofs.Leaves.{variable_leaf, constant_leaf, index_low}
use Rattle.differing.proofs.leaf_at.Goals as goal

pub number_at-n-requires : goal.number_at-n-requires
number_at-n-requires c = index_low c.word-then-word-eq21.result _ c.below-v.ensures

pub returns-then-word-eq21 : goal.returns-then-word-eq21
returns-then-word-eq21 c = variable_leaf c.args.work.now c.args.p _ c.word.ensures c.if-word-eq21.true c.word-then-word-eq21.ensures c.below-v.ensures c.number_at-n.ensures.0 c.number_at-n.ensures.1

pub returns-then-p-lt-TWO_WORDS : goal.returns-then-p-lt-TWO_WORDS
returns-then-p-lt-TWO_WORDS c = rw (to_z-of_z {w = w32} (sfits_of c.c-1.given)) (constant_leaf c.args.work.now c.args.p _ c.word.ensures c.if-word-eq21.false _ (word_there c.args.work.now _ (omega arith)))

pub returns : goal.returns
returns c = constant_leaf c.args.work.now c.args.p _ c.word.ensures c.if-word-eq21.false _ (word_behind c.args.work.now _ (omega arith))
