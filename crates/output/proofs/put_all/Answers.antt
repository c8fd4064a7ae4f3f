use mathlib.Core.Path.{refl, ◌∙◌}
use lib.IntN.{pos}
use lib.ListN.{get_or}
use borrow.Author.Rules.{rules}
use mir.Syntax.{w32}
use mir.Val.{SFits}
use mir.Facts.{to_z-of_z}
use Rattle.laws.specs.Writes.{wrote_length}
use Rattle.output.proofs.Laws.{open_next, suffix_step, suffix_end}
use Rattle.output.proofs.put_all.Goals as goal

pub loop-w-init : goal.loop-w-init
loop-w-init c = (c.requires, refl, λ b q h. h)

pub put-p-requires : goal.put-p-requires
put-p-requires c = c.loop-w.invariant.0

pub loop-w-preserved : goal.loop-w-preserved
loop-w-preserved c =
    let l = c.loop-w in
    let z : SFits w32 (get_or c.args.words.now l.w-index (pos 0)) = search rules in
    let e = rw (to_z-of_z z) at c.put-p.ensures in
    (open_next l.invariant.0 e, wrote_length e ∙ l.invariant.1, λ b q h. l.invariant.2 b q (suffix_step c.args.words.now l.w-index c.loop-w-test.true l.invariant.0.room e h))

pub returns : goal.returns
returns c = c.loop-w.invariant.2 _ _ (suffix_end _ _ c.args.words.now c.loop-w.w-index c.loop-w-test.false c.loop-w.invariant.0.low)
