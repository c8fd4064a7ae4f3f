-- `finds_if` meets its contract: the places passed do not read as an If. Assumes nothing.
use mathlib.Core.Path.{refl, sym, ◌∙◌}
use native.Mathlib.Omega.{arith}
use borrow.Author.Rules.{rules}
use Rattle.marking.proofs.Laws.{if_found, if_unread, if_later, if_last}
use Rattle.marking.proofs.finds_if.Goals as goal
use Rattle.marking.proofs.finds_if.Goals.{else-work-i-eq23-via-then-work-i-eq23+else-reads_if, else-work-i-eq23-via-else-work-i-eq23}

pub loop-i-init : goal.loop-i-init
loop-i-init c = refl

pub returns-then-reads_if : goal.returns-then-reads_if
returns-then-reads_if c =
    let l = c.loop-i in
    if_found c.args.work.now c.args.end c.requires.1 l.i (omega arith) (search rules) c.if-work-i-eq23.true (sym c.reads_if.ensures ∙ c.if-reads_if.true) ∙ l.invariant

pub loop-i-preserved : goal.loop-i-preserved
loop-i-preserved c =
    let l = c.loop-i in
    elim c.else-work-i-eq23.branch [
      | else-work-i-eq23-via-then-work-i-eq23+else-reads_if j ↦ if_unread c.args.work.now c.args.end c.requires.1 l.i (omega arith) (search rules) j.if-work-i-eq23.true (sym j.reads_if.ensures ∙ j.if-reads_if.false) ∙ l.invariant
      | else-work-i-eq23-via-else-work-i-eq23 j ↦ if_later c.args.work.now c.args.end c.requires.1 l.i (omega arith) j.if-work-i-eq23.false ∙ l.invariant
    ]

pub returns : goal.returns
returns c = if_last c.args.work.now c.args.end c.requires.1 c.loop-i.i (omega arith) ∙ c.loop-i.invariant
