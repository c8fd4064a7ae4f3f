use Prim.Native.Nat.{◌+◌, ◌*◌}
use Rattle.numbering.proofs.Words.{span_fits, count_fits, range_put}
use Rattle.numbering.proofs.put_range.Goals as goal

pub overflow_sub-hi : goal.overflow_sub-hi
overflow_sub-hi c = span_fits c.args.lo c.args.hi c.ranges.lo c.ranges.hi c.requires.1.1.0 c.requires.1.1.1

pub overflow_add-hi : goal.overflow_add-hi
overflow_add-hi c = count_fits c.args.lo c.args.hi c.ranges.lo c.ranges.hi c.requires.1.1.0 c.requires.1.1.1

pub returns : goal.returns
returns c = (range_put c.args.lo c.args.hi c.ranges.lo c.ranges.hi c.requires.1.1.0 c.requires.1.1.1 c.args.out.now _ (c.args.records + 4 * c.args.k) c.put_record.ensures.0, c.put_record.ensures.1)
