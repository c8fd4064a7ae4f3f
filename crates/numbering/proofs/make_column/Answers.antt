use Prim.Native.Nat.{zero-le}
use mir.Syntax.{w32}
use mir.Val.{SFits}
use Rattle.scan.specs.Skip.{split_by}
use Rattle.numbering.proofs.Bounds.{span_low, span_ranging, span_fits, makes}
use borrow.Author.Rules.{rules}
use Rattle.numbering.proofs.make_column.Goals as goal

pub range_of-r-requires : goal.range_of-r-requires
unfolding split_by
range_of-r-requires c = (c.requires.0, (c.requires.1.0, (zero-le, (span_low c.args.work.now c.args.at c.args.c c.args.d _ c.counters_of.ensures c.requires.1.1.1, span_ranging c.args.work.now c.args.at c.args.c c.args.d _ c.counters_of.ensures c.requires.1.1.1))))

pub put_range-requires : goal.put_range-requires
unfolding split_by
put_range-requires c =
    let f : SFits w32 c.range_of-r.result.low = search rules in
    let g : SFits w32 c.range_of-r.result.high = search rules in
    (c.requires.1.1.0, (c.requires.1.1.1.room, span_fits c.args.work.now c.args.at c.args.c c.args.d _ c.counters_of.ensures c.requires.1.1.1 c.range_of-r.result.low c.range_of-r.result.high c.range_of-r.ensures f g))

pub returns : goal.returns
unfolding split_by
returns c =
    let f : SFits w32 c.range_of-r.result.low = search rules in
    let g : SFits w32 c.range_of-r.result.high = search rules in
    makes c.args.work.now c.args.at c.args.c c.args.d _ c.counters_of.ensures c.requires.1.1.1 c.range_of-r.result.low c.range_of-r.result.high c.range_of-r.ensures f g c.args.room.records c.args.out.now _ _ _ c.put_range.ensures.0 c.store_number.ensures.0 c.count_int.ensures
