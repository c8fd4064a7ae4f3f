use mir.Facts.{to_z-of_z}
use mir.Syntax.{w32}
use mir.Val.{SFits}
use Rattle.scan.specs.Skip.{split_by}
use Rattle.numbering.specs.Make.{range_bits}
use Rattle.numbering.proofs.Branches.{branch_low, branch_ranging, branch_ranges, ranges_are, lowest_is, highest_is}
use borrow.Author.Rules.{rules}
use Rattle.numbering.proofs.branch_range.Goals as goal

pub range_of-a-requires : goal.range_of-a-requires
range_of-a-requires c =
    let p = c.requires in
    (p.0, (p.1.0.first, (p.1.0.one, (branch_low c.args.work.now c.args.s _ c.counters_of.ensures p.1.0.low_first, branch_ranging c.args.work.now c.args.left (split_by c.args.m) c.args.p.first c.args.p.one c.args.s _ c.counters_of.ensures p.1.1.domains p.1.1.declares p.1.1.fits.first))))

pub range_of-b-requires : goal.range_of-b-requires
range_of-b-requires c =
    let p = c.requires in
    (p.0, (p.1.0.second, (p.1.0.two, (branch_low c.args.work.now c.args.y _ c.counters_of-2.ensures p.1.0.low_second, branch_ranging c.args.work.now c.args.left (split_by c.args.m) c.args.p.second c.args.p.two c.args.y _ c.counters_of-2.ensures p.1.1.domains p.1.1.declares p.1.1.fits.second))))

pub returns : goal.returns
returns c =
    let a : SFits w32 c.range_of-a.result.low = search rules in
    let b : SFits w32 c.range_of-a.result.high = search rules in
    let d : SFits w32 c.range_of-b.result.low = search rules in
    let e : SFits w32 c.range_of-b.result.high = search rules in
    let h : SFits w32 c.min.result = search rules in
    let i : SFits w32 c.max.result = search rules in
    range_bits h i (ranges_are c.args.work.now c.args.left (split_by c.args.m) c.args.p.first c.args.p.second c.args.p.one c.args.p.two _ _ c.range_of-a.result.low c.range_of-a.result.high c.range_of-b.result.low c.range_of-b.result.high _ _ (branch_ranges c.args.work.now c.args.left (split_by c.args.m) c.args.p.first c.args.p.one c.args.s _ c.counters_of.ensures _ _ c.range_of-a.ensures) (branch_ranges c.args.work.now c.args.left (split_by c.args.m) c.args.p.second c.args.p.two c.args.y _ c.counters_of-2.ensures _ _ c.range_of-b.ensures) (lowest_is c.range_of-a.result.low c.range_of-b.result.low (rw (to_z-of_z a, to_z-of_z d) at c.min.ensures.value)) (highest_is c.range_of-a.result.high c.range_of-b.result.high (rw (to_z-of_z b, to_z-of_z e) at c.max.ensures.value)) c.requires.1.1)
