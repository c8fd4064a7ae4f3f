use Prim.Native.Nat.{◌+◌, ◌*◌}
use Rattle.numbering.proofs.Results.{opened, opened_progress}
use Rattle.numbering.proofs.start_open.Goals as goal

pub returns : goal.returns
returns c = record { written = opened c.args.out.now _ (c.args.room.records + 4 * c.args.c.ints) c.args.lo c.args.hi c.ranges.lo c.ranges.hi c.put_range.ensures.0; count = opened_progress c.args.c _ _ c.args.k c.count_int.ensures c.spend.ensures }
