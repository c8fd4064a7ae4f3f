-- `has_code` meets its contract: what was found, or what is left to look at, is all. Assumes nothing.
use mathlib.Core.Path.{refl, ◌∙◌}
use native.Mathlib.Omega.{arith}
use mir.Syntax.{w32}
use mir.Val.{SFits}
use lib.IntN.{pos}
use lib.ListN.{get_or}
use borrow.Author.Rules.{rules}
use Rattle.marking.proofs.Laws.{code_next, code_last}
use Rattle.marking.proofs.has_code.Goals as goal

pub loop-q-init : goal.loop-q-init
loop-q-init c = refl

pub loop-q-preserved : goal.loop-q-preserved
loop-q-preserved c =
    let l = c.loop-q in
    let f : SFits w32 (get_or c.args.work.now l.q (pos 0)) = search rules in
    code_next c.args.work.now c.args.end c.requires.1 l.q (omega arith) l.found f ∙ l.invariant

pub returns : goal.returns
returns c = code_last c.args.work.now c.args.end c.requires.1 c.loop-q.q (omega arith) c.loop-q.found ∙ c.loop-q.invariant
