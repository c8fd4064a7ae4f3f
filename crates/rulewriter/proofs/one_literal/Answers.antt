use native.Mathlib.Omega.{arith}
use mir.Facts.{to_z-of_z}
use mir.Syntax.{w32}
use mir.Val.{SFits}
use Rattle.output.proofs.Laws.{stack_down, one_stacked}
use borrow.Author.Rules.{rules}
use Rattle.rulewriter.proofs.one_literal.Goals as goal

pub push-requires : goal.push-requires
push-requires c = stack_down 1 c.no_suffix.ensures.1 (omega arith)

pub returns : goal.returns
returns c =
    let f : SFits w32 c.word_of.result = search rules in
    let e = rw (to_z-of_z f) at c.push.ensures.0 in
    (rw (c.word_of.ensures, c.no_suffix.ensures.0) at e, one_stacked c.no_suffix.ensures.1 c.push.ensures.1 c.push.ensures.2)
