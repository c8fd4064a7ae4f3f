-- An If's cells, or its branches' constants.
use mathlib.Core.Path.{refl}
use mir.Syntax.{w32}
use mir.Val.{SFits}
use mir.Facts.{to_z-of_z}
use Rattle.scan.specs.Skip.{split_by}
use Rattle.totals.proofs.Looks.{if_open, branch_first, branch_second, if_constants}
use borrow.Author.Rules.{rules}
use Rattle.totals.proofs.if_domain.Goals as goal

pub returns-then-seen-ne1 : goal.returns-then-seen-ne1
returns-then-seen-ne1 c = let f : SFits w32 c.cell-low.result = search rules in
    let g : SFits w32 c.cell-high.result = search rules in
    rw (to_z-of_z f, to_z-of_z g) (if_open c.args.work.now c.args.left (split_by c.args.m) c.args.p c.args.c c.args.base c.args.n c.seen.result c.seen.ensures c.if-seen-ne1.true _ (rw (c.cell-low.ensures, c.cell-high.ensures) refl))

pub linear_of-a-requires : goal.linear_of-a-requires
linear_of-a-requires c = let p = c.requires in
    let s = c.skip-d.ensures in
    (p.0, (s.inside, (s.low, (p.1.1.1.1.0, branch_first c.args.work.now c.args.left (split_by c.args.m) c.args.p c.args.c c.args.base c.args.n c.seen.result c.seen.ensures _ _ s p.1.1.1.1.1))))

pub linear_of-b-requires : goal.linear_of-b-requires
linear_of-b-requires c = let p = c.requires in
    let o = c.linear_of-a.ensures in
    (p.0, (o.behind.skips.inside, (o.behind.skips.low, (o.behind.low, branch_second c.args.work.now c.args.left (split_by c.args.m) c.args.p c.args.c c.args.base c.args.n c.seen.result c.seen.ensures _ _ c.skip-d.ensures p.1.1.1.1.1 c.linear_of-a.result o))))

pub returns : goal.returns
returns c = let f : SFits w32 c.linear_of-a.result.sum.constant = search rules in
    let g : SFits w32 c.linear_of-b.result.sum.constant = search rules in
    if_constants c.args.work.now c.args.left (split_by c.args.m) c.args.p c.args.c c.args.base c.args.n c.seen.result c.seen.ensures _ _ c.skip-d.ensures c.requires.1.1.1.1.1 c.linear_of-a.result c.linear_of-a.ensures c.linear_of-b.result c.linear_of-b.ensures c.if-seen-ne1.false _ (rw (to_z-of_z f, to_z-of_z g) at c.between.ensures)
