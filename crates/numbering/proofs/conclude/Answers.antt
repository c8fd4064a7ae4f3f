use Rattle.numbering.proofs.Results.{concluded_requires, concluded_written, concluded}
use Rattle.numbering.proofs.conclude.Goals as goal

pub put_two-requires : goal.put_two-requires
put_two-requires c = concluded_requires c.args.e.progress c.args.d c.args.e _ _ _ _ c.fresh.ensures c.fresh-2.ensures c.advance-a.ensures c.advance-b.ensures c.args.room.records c.args.n c.requires.0 c.requires.1.0 c.requires.1.1.0

pub returns : goal.returns
returns c = record { written = concluded_written c.args.e.progress c.args.d c.args.e _ _ _ _ c.fresh.ensures c.fresh-2.ensures c.advance-a.ensures c.advance-b.ensures c.args.room.records c.args.n c.args.x c.args.y c.args.out.now _ c.requires.1.0 c.ranges.x c.ranges.y c.put_two.ensures.0; count = concluded c.args.e.progress c.args.d c.args.e _ _ _ _ c.fresh.ensures c.fresh-2.ensures c.advance-a.ensures c.advance-b.ensures _ c.count_int.ensures }
