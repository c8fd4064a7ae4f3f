use lib.IntN.{pos}
use lib.ListN.{get_or}
use Prim.Native.Nat.{◌+◌}
use mir.Syntax.{w32}
use mir.Val.{SFits}
use borrow.Author.Rules.{rules}
use Rattle.laws.specs.Signed.{same_value}
use Rattle.numbering.specs.Equal.{sofar_not, sofar_more, sofar_all}
use Rattle.numbering.proofs.Words.{differ}
use Rattle.numbering.proofs.same_words.Goals as goal

pub returns-then-work-q : goal.returns-then-work-q
returns-then-work-q c = sofar_not c.args.work.now c.args.p c.args.q c.args.n c.requires.0 c.requires.1.0 c.requires.1.1 c.loop-i.i c.loop-i.invariant c.loop-i-test.true (differ (get_or c.args.work.now (c.args.q + c.loop-i.i) (pos 0)) (get_or c.args.work.now (c.args.p + c.loop-i.i) (pos 0)) c.if-work-q.true)

pub loop-i-preserved : goal.loop-i-preserved
loop-i-preserved c =
    let f : SFits w32 (get_or c.args.work.now (c.args.q + c.loop-i.i) (pos 0)) = search rules in
    let g : SFits w32 (get_or c.args.work.now (c.args.p + c.loop-i.i) (pos 0)) = search rules in
    sofar_more c.args.work.now c.args.p c.args.q c.args.n c.requires.0 c.requires.1.0 c.requires.1.1 c.loop-i.i c.loop-i.invariant c.loop-i-test.true (same_value f g c.if-work-q.false)

pub returns : goal.returns
returns c = sofar_all c.args.work.now c.args.p c.args.q c.args.n c.requires.0 c.requires.1.0 c.requires.1.1 c.loop-i.i c.loop-i.invariant c.loop-i-test.false
