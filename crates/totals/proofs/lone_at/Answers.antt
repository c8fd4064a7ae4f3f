-- By the levels left and the code.
use native.Mathlib.Omega.{arith}
use mathlib.Core.Path.{◌∙◌}
use mir.Syntax.{w32}
use mir.Val.{SFits}
use mir.Facts.{to_z-of_z}
use Rattle.syntax.specs.Words.{max_ints}
use Rattle.walk.proofs.Steps.{below_lt}
use Rattle.totals.proofs.Numbers.{lone_none, lone_variable, lone_if, lone_constant}
use borrow.Author.Rules.{rules}
use Rattle.totals.proofs.lone_at.Goals as goal

pub returns-then-left-eq0 : goal.returns-then-left-eq0
returns-then-left-eq0 c = (lone_none c.args.work.now c.args.at c.args.ints c.args.left c.if-left-eq0.true, tt)

pub number_at-requires : goal.number_at-requires
number_at-requires c = rw c.below.ensures (below_lt max_ints c.word-in-21.result (omega arith))

pub returns-in-21 : goal.returns-in-21
returns-in-21 c = (lone_variable c.args.work.now c.args.at c.args.ints c.word.result c.word.ensures c.args.left _ _ _ c.if-left-eq0.false c.in-21.is c.word-in-21.ensures c.below.ensures c.number_at.ensures.0, c.number_at.ensures.1)

pub returns-in-23 : goal.returns-in-23
returns-in-23 c = (lone_if c.args.work.now c.args.at c.args.ints c.word.result c.word.ensures c.args.left _ c.if-left-eq0.false c.in-23.is c.if_number.ensures.0, c.if_number.ensures.1)

pub returns-in_default : goal.returns-in_default
returns-in_default c = let f : SFits w32 c.word_at.result = search rules in
    (lone_constant c.args.work.now c.args.at c.args.ints c.word.result c.word.ensures c.args.left _ c.if-left-eq0.false c.in_default.in_default-own.rest.0.1 c.in_default.in_default-own.rest.1 (to_z-of_z f ∙ c.word_at.ensures), tt)
